use Rattle.std.proofs.Common.{◌≡◌, ◌⊎◌, inl, inr, ⊎_elim, ℕ, List, true, [], ◌∷◌, arith, rules, refl, ◌∙◌, sym, subst}
use Rattle.std.specs.Prelude.{Some}
use Rattle.tc_io.specs.Causes.{Rose}
use Rattle.tc_io.specs.Script.{Plays}
use Rattle.tc_io.specs.Told.{Adds}
use Rattle.tc_io.specs.declared.wire.Entry.TheVariants.{Open}
use Rattle.tc_model.specs.Contents.{Contents}
use Rattle.tc_space.specs.Effects.{follows_in_then}
use Rattle.ty_base.specs.declared.errors.AnyErr.TheVariants as any
use Rattle.ty_rounds.specs.Kept.{HoldsMark}
use Rattle.ty_ulog.specs.Noting.{Lacks}
use Rattle.ty_world.specs.World.{Mark}
use Rattle.ty_base.specs.Holding.{Laid}
use Rattle.ty_base.specs.Opening.{OpensTo}
use Rattle.ty_rounds.specs.Books.{settings_of}
use Rattle.tk_top.specs.declared.ends.End.{End}
use Rattle.tk_top.specs.Causes.{Caused}
use Rattle.tk_top.specs.Logging.{BeginsLogged, BreaksLogged, CameToWire, FullLogged, LoggedAs, RunsLogged, logging}
use Rattle.tk_top.specs.Over.{Judged}
use Rattle.tk_top.specs.Runs.{Ends, EndsFull, FullRun}
use Rattle.tk_top.specs.Says.{saying}
use Rattle.tk_top.specs.Starts.{StartsAs}
use Rattle.tk_top.proofs.Causes.{caused_later, caused_open, told_follows}
use Rattle.tk_top.proofs.Fresh.{fresh}
use Rattle.tk_top.proofs.Kept.{full_err, full_opened, judged_err}
use Rattle.tk_top.proofs.LoggedRuns.{begins_less, came_not, judged_turns, logged_refused, logged_served, logged_unopened, tells_none, tells_same}
use Rattle.tk_top.proofs.Over.{full_open}
use Rattle.tk_top.proofs.Starting.{ready_at}
use Rattle.tk_top.proofs.logged.serve_logged.Goals as goal

pub serve-end-requires-clause-ready : goal.serve-end-requires-clause-ready
serve-end-requires-clause-ready g c = let s = g.B.S.Space in let w = g.W.Wire in
    let opened : w.opened c.open.new.self ≡ true = search rules in
    ready_at s w g.B.Storage.holds c.in-Ok.opened.0 c.new-server.result.base c.open_logged.new.space c.open.new.self c.new-server.result.logged c.new-server.result.peers.items c.new-server.ensures.base c.new-server.ensures.peers opened (c.open.ensures.lines.conns ∙ g.met.W.Wire.none_before c.args.wire.now c.requires.opened) c.in-Ok.ensures.opened.ready c.in-Ok.ensures.opened.untouched

-- ---- what it told

pub returns-in-Err-clause-told : goal.returns-in-Err-clause-told
returns-in-Err-clause-told g c = let s = g.B.S.Space in let w = g.W.Wire in let made = g.B.Opens.shaped g.B.Opens.usual in let clock = g.K.Clock.answers c.args.clock.now in
    let x = logged_refused s w g.B.Storage.reopens made c.args.kind (logging c.args.own c.args.master) c.in-Err.e c.args.turns c.args.at.now c.args.space.now c.open_logged.new.space c.args.wire.now clock
    (fresh s c.args.space.now g.met.B.S.Space.only_kept g.met.B.S.Space.clean c.requires.sound c.requires.untouched) (g.met.B.S.Space.earlier c.open_logged.new.space) c.open_logged.ensures.follows.same_names c.open_logged.ensures.moments in
    subst (λ (end : End). LoggedAs s w g.K.Clock.answers c.args.own c.args.master g.E.Sink (saying g.B.Storage g.B.Opens) c.args.kind end c.args.turns c.args.at.now c.args.space.now c.open_logged.new.space c.args.wire.now c.args.wire.now c.args.clock.now c.args.clock.now c.args.err.now c.args.err.now) (sym c.from.ensures) (
      x.0,
      tells_none g.E.Sink x.0.gaps c.args.err.now x.1,
      inl x.1,
      λ is. let e : c.in-Err.e ≡ any.Full = full_err c.in-Err.e is in record { which = inl (λ t. let new = c.in-Err.ensures.full (search rules) t in (new.empty, new.full)) },
    )

pub returns-in-Err-clause-laid : goal.returns-in-Err-clause-laid
returns-in-Err-clause-laid g c = λ l. let s = g.B.S.Space in let w = g.W.Wire in let b = g.B.Storage in let made = g.B.Opens.shaped g.B.Opens.usual in let clock = g.K.Clock.answers c.args.clock.now in
    let like = Laid b.own b.layout l b.reopens in
    subst (λ (end : End). RunsLogged s w (logging c.args.own c.args.master) like made c.args.kind end c.args.turns c.args.at.now c.args.space.now c.open_logged.new.space c.args.wire.now c.args.wire.now clock clock) (sym c.from.ensures)
    (logged_refused s w like made c.args.kind (logging c.args.own c.args.master) c.in-Err.e c.args.turns c.args.at.now c.args.space.now c.open_logged.new.space c.args.wire.now clock
    (fresh s c.args.space.now g.met.B.S.Space.only_kept g.met.B.S.Space.clean c.requires.sound c.requires.untouched) (g.met.B.S.Space.earlier c.open_logged.new.space) c.open_logged.ensures.follows.same_names (c.open_logged.ensures.moved l)).0

pub returns-in-Err-open-clause-told : goal.returns-in-Err-open-clause-told
returns-in-Err-open-clause-told g c = let s = g.B.S.Space in let w = g.W.Wire in let o = c.in-Ok.ensures.opened in
    let told : Adds (w.transcript c.args.wire.now) (w.transcript c.open.new.self) [] ⊎ Adds (w.transcript c.args.wire.now) (w.transcript c.open.new.self) (Open c.args.at.now ∷ []) = search rules in
    let x = logged_unopened s w g.B.Storage.reopens (g.B.Opens.shaped g.B.Opens.usual) c.args.kind g.B.Storage.holds (logging c.args.own c.args.master) c.in-Ok.opened.0 c.in-Ok.opened.1 c.args.space.now c.open_logged.new.space o.settings o.marks o.still
    (fresh s c.args.space.now g.met.B.S.Space.only_kept g.met.B.S.Space.clean c.requires.sound c.requires.untouched) (fresh s c.open_logged.new.space g.met.B.S.Space.only_kept g.met.B.S.Space.clean o.ready.sound o.untouched)
    c.open_logged.ensures.follows.same_names c.open_logged.ensures.moments c.args.turns c.args.at.now c.args.wire.now c.open.new.self (g.K.Clock.answers c.args.clock.now) told in
    (x.0, tells_none g.E.Sink x.0.gaps c.args.err.now x.1, inl x.1, λ is. absurd cc)

pub returns-in-Err-open-clause-laid : goal.returns-in-Err-open-clause-laid
returns-in-Err-open-clause-laid g c = λ l. let s = g.B.S.Space in let w = g.W.Wire in let b = g.B.Storage in let o = c.in-Ok.ensures.opened in
    let told : Adds (w.transcript c.args.wire.now) (w.transcript c.open.new.self) [] ⊎ Adds (w.transcript c.args.wire.now) (w.transcript c.open.new.self) (Open c.args.at.now ∷ []) = search rules in
    (logged_unopened s w (Laid b.own b.layout l b.reopens) (g.B.Opens.shaped g.B.Opens.usual) c.args.kind b.holds (logging c.args.own c.args.master) c.in-Ok.opened.0 c.in-Ok.opened.1 c.args.space.now c.open_logged.new.space o.settings
    (λ m h. (c.in-Ok.ensures.laid l m h, (o.marks m (begins_less s c.args.kind b.reopens b.own b.layout l c.args.space.now m h)).1)) o.still
    (fresh s c.args.space.now g.met.B.S.Space.only_kept g.met.B.S.Space.clean c.requires.sound c.requires.untouched) (fresh s c.open_logged.new.space g.met.B.S.Space.only_kept g.met.B.S.Space.clean o.ready.sound o.untouched)
    c.open_logged.ensures.follows.same_names (c.open_logged.ensures.moved l) c.args.turns c.args.at.now c.args.wire.now c.open.new.self (g.K.Clock.answers c.args.clock.now) told).0

pub returns-clause-told : goal.returns-clause-told
returns-clause-told g c = let s = g.B.S.Space in let w = g.W.Wire in let b = g.B.Storage in let k = g.E.Sink in let o = c.in-Ok.ensures.opened in let clock = g.K.Clock.answers c.args.clock.now in let later = g.K.Clock.answers c.serve-end.new.clock in
    let mid = c.open_logged.new.space in let new = c.serve-end.new.space in let op = g.B.Opens in
    let told : Adds (w.transcript c.args.wire.now) (w.transcript c.open.new.self) (Open c.args.at.now ∷ []) = search rules in
    let plays : Plays (w.plays c.args.wire.now) (w.plays c.open.new.self) (Open c.args.at.now ∷ []) = search rules in
    let all : EndsFull s w k b.holds b.reopens b.fills_since c.serve-end.result c.args.turns (Some c.in-Ok.opened.1) c.in-Ok.opened.0 mid new c.open.new.self c.serve-end.new.wire clock later c.args.err.now c.serve-end.new.err =
    subst (λ l. EndsFull s w k b.holds b.reopens b.fills_since c.serve-end.result c.args.turns l c.in-Ok.opened.0 mid new c.open.new.self c.serve-end.new.wire clock later c.args.err.now c.serve-end.new.err) c.new-server.ensures.logged
    (subst (λ base. EndsFull s w k b.holds b.reopens b.fills_since c.serve-end.result c.args.turns c.new-server.result.logged base mid new c.open.new.self c.serve-end.new.wire clock later c.args.err.now c.serve-end.new.err) c.new-server.ensures.base c.serve-end.ensures.told) in
    let ends = all.ends in
    let x = logged_served s w b.reopens (op.shaped op.usual) c.args.kind b.holds (logging c.args.own c.args.master) c.in-Ok.opened.0 c.in-Ok.opened.1 c.args.space.now mid o.settings o.marks o.still
    (fresh s c.args.space.now g.met.B.S.Space.only_kept g.met.B.S.Space.clean c.requires.sound c.requires.untouched) (fresh s mid g.met.B.S.Space.only_kept g.met.B.S.Space.clean o.ready.sound o.untouched)
    c.open_logged.ensures.follows.same_names c.open_logged.ensures.moments k c.serve-end.result c.args.turns c.args.at.now new c.args.wire.now c.open.new.self c.serve-end.new.wire clock later c.args.err.now c.serve-end.new.err (g.met.B.S.Space.earlier new) told plays ends in
    let start = λ (m : Mark). HoldsMark s b.holds b.reopens c.in-Ok.opened.0 mid m × StartsAs (Some c.in-Ok.opened.1) m in (
      x.0,
      tells_same k x.0.gaps ends.gaps c.args.err.now c.serve-end.new.err x.1 ends.tells,
      inr o.stands,
      λ is. subst (λ (ticks : List ℕ). FullLogged s w (logging c.args.own c.args.master) (λ z. op.lacks z op.usual) b.fills_since (OpensTo c.args.kind b.reopens) c.args.space.now new c.args.wire.now c.serve-end.new.wire ticks) (sym x.2) (record {
        which = inr (
          full_opened (b.fills_since mid new) (b.fills_since c.args.space.now new) (Lacks s new) (logging c.args.own c.args.master) (BeginsLogged s (OpensTo c.args.kind b.reopens) c.args.space.now) start ends.ticks _ _ (λ m h. o.marks m h.0)
              (λ m h. (g.met.B.Storage.since_more c.args.space.now mid new (c.open_logged.ensures.moments m h.0).leaves.later).fills)
              (subst (λ set. FullRun (b.fills_since mid new) (Lacks s new) set start [] ends.ticks (w.transcript c.args.wire.now) (w.transcript c.serve-end.new.wire)) o.settings
              (full_open (b.fills_since mid new) (Lacks s new) (settings_of (Some c.in-Ok.opened.1)) start c.args.at.now ends.ticks _ _ _ told (all.full is (c.args.at.now ∷ [])))),
          o.stands,
        );
      }),
    )

pub returns-clause-laid : goal.returns-clause-laid
returns-clause-laid g c = λ l. let s = g.B.S.Space in let w = g.W.Wire in let b = g.B.Storage in let k = g.E.Sink in let o = c.in-Ok.ensures.opened in let clock = g.K.Clock.answers c.args.clock.now in let later = g.K.Clock.answers c.serve-end.new.clock in
    let told : Adds (w.transcript c.args.wire.now) (w.transcript c.open.new.self) (Open c.args.at.now ∷ []) = search rules in
    let plays : Plays (w.plays c.args.wire.now) (w.plays c.open.new.self) (Open c.args.at.now ∷ []) = search rules in
    let like = Laid b.own b.layout l b.reopens in
    (logged_served s w like (g.B.Opens.shaped g.B.Opens.usual) c.args.kind b.holds (logging c.args.own c.args.master) c.in-Ok.opened.0 c.in-Ok.opened.1 c.args.space.now c.open_logged.new.space o.settings
    (λ m h. (c.in-Ok.ensures.laid l m h, (o.marks m (begins_less s c.args.kind b.reopens b.own b.layout l c.args.space.now m h)).1)) o.still
    (fresh s c.args.space.now g.met.B.S.Space.only_kept g.met.B.S.Space.clean c.requires.sound c.requires.untouched) (fresh s c.open_logged.new.space g.met.B.S.Space.only_kept g.met.B.S.Space.clean o.ready.sound o.untouched)
    c.open_logged.ensures.follows.same_names (c.open_logged.ensures.moved l) k c.serve-end.result c.args.turns c.args.at.now c.serve-end.new.space c.args.wire.now c.open.new.self c.serve-end.new.wire clock later c.args.err.now c.serve-end.new.err (g.met.B.S.Space.earlier c.serve-end.new.space) told plays
    (subst (λ m. Ends s w k b.holds like c.serve-end.result c.args.turns m c.in-Ok.opened.0 c.open_logged.new.space c.serve-end.new.space c.open.new.self c.serve-end.new.wire clock later c.args.err.now c.serve-end.new.err) c.new-server.ensures.logged
    (subst (λ base. Ends s w k b.holds like c.serve-end.result c.args.turns c.new-server.result.logged base c.open_logged.new.space c.serve-end.new.space c.open.new.self c.serve-end.new.wire clock later c.args.err.now c.serve-end.new.err) c.new-server.ensures.base (c.serve-end.ensures.laid l)))).0

pub returns-in-Err-clause-judged : goal.returns-in-Err-clause-judged
returns-in-Err-clause-judged g c = let s = g.B.S.Space in let opens = OpensTo c.args.kind g.B.Storage.reopens in
    let full : c.in-Err.e ≡ any.Full → s.tells → (d : Contents) × opens (s.now c.args.space.now) d = λ is t. let x = c.in-Err.ensures.full (search rules) t in (x.contents, x.stand) in
    let breaks = BreaksLogged s opens (g.B.Opens.breaks c.args.kind) c.args.space.now c.open_logged.new.space in
    subst (λ (end : End). Judged end (s.tells → (d : Contents) × opens (s.now c.args.space.now) d) breaks) (sym c.from.ensures)
    (judged_err c.in-Err.e (s.tells → (d : Contents) × opens (s.now c.args.space.now) d) breaks c.in-Err.ensures.broken full)

pub returns-in-Err-open-clause-judged : goal.returns-in-Err-open-clause-judged
returns-in-Err-open-clause-judged g c = λ t. let x = c.in-Ok.ensures.opened.stands t in (x.0, x.1.0)

pub returns-clause-judged : goal.returns-clause-judged
returns-clause-judged g c = judged_turns c.serve-end.result _ _ c.serve-end.ensures.ends (λ t. let x = c.in-Ok.ensures.opened.stands t in (x.0, x.1.0))

pub returns-in-Err-clause-stood : goal.returns-in-Err-clause-stood
returns-in-Err-clause-stood g c = λ came. absurd (came_not c.in-Err.e (subst CameToWire c.from.ensures came))

pub returns-in-Err-open-clause-stood : goal.returns-in-Err-open-clause-stood
returns-in-Err-open-clause-stood g c = λ came. c.in-Ok.ensures.opened.stands

pub returns-clause-stood : goal.returns-clause-stood
returns-clause-stood g c = λ came. c.in-Ok.ensures.opened.stands

pub returns-in-Err-clause-guards : goal.returns-in-Err-clause-guards
returns-in-Err-clause-guards g c = record {
  begun = inl refl;
  copied = inl c.open_logged.ensures.follows.same_names;
  spared = λ t damaged. (c.open_logged.ensures.there t damaged.some).spared damaged.none;
  sound = λ out. absurd (came_not c.in-Err.e (subst CameToWire c.from.ensures (inl out)));
}

pub returns-in-Err-open-clause-guards : goal.returns-in-Err-open-clause-guards
returns-in-Err-open-clause-guards g c = let stands = c.in-Ok.ensures.opened.stands in record {
  begun = inr stands;
  copied = inr stands;
  spared = λ t damaged. let x = stands t in absurd (damaged.none x.0 x.1);
  sound = λ out. absurd (⊎_elim (λ is. cc) (λ is. cc) out);
}

pub returns-clause-guards : goal.returns-clause-guards
returns-clause-guards g c = let stands = c.in-Ok.ensures.opened.stands in record {
  begun = inr stands;
  copied = inr stands;
  spared = λ t damaged. let x = stands t in absurd (damaged.none x.0 x.1);
  sound = c.serve-end.ensures.sound;
}

pub returns-in-Err-clause-unlogged : goal.returns-in-Err-clause-unlogged
returns-in-Err-clause-unlogged g c = c.open_logged.ensures.unlogged

pub returns-in-Err-open-clause-unlogged : goal.returns-in-Err-open-clause-unlogged
returns-in-Err-open-clause-unlogged g c = λ t none. let x = c.in-Ok.ensures.opened.stands t in absurd (none x.1.1)

pub returns-clause-unlogged : goal.returns-clause-unlogged
returns-clause-unlogged g c = λ t none. let x = c.in-Ok.ensures.opened.stands t in absurd (none x.1.1)

pub returns-in-Err-clause-accounted : goal.returns-in-Err-clause-accounted
returns-in-Err-clause-accounted g c = let s = g.B.S.Space in let w = g.W.Wire in record {
  follows = told_follows s c.args.space.now c.open_logged.new.space c.open_logged.ensures.follows;
  later = omega arith;
  caused = subst (λ (end : End). Caused end (s.faults c.args.space.now) (s.faults c.open_logged.new.space) (w.faults c.args.wire.now) (w.faults c.args.wire.now)) (sym c.from.ensures) (caused_open c.in-Err.e _ _ _ (λ is. c.in-Err.ensures.cause (search rules)));
}

pub returns-in-Err-open-clause-accounted : goal.returns-in-Err-open-clause-accounted
returns-in-Err-open-clause-accounted g c = let w = g.W.Wire in
    let rose : Rose (w.faults c.args.wire.now) (w.faults c.open.new.self) = search rules in
    record { follows = told_follows g.B.S.Space c.args.space.now c.open_logged.new.space c.open_logged.ensures.follows; later = c.open.ensures.cause.later; caused = rose }

pub returns-clause-accounted : goal.returns-clause-accounted
returns-clause-accounted g c = let s = g.B.S.Space in let a = c.serve-end.ensures.accounted in let later = c.open.ensures.cause.later in let f = c.open_logged.ensures.follows in record {
  follows = follows_in_then s.faults s.limit (λ x. (s.names x).told) c.args.space.now c.open_logged.new.space c.serve-end.new.space (told_follows s c.args.space.now c.open_logged.new.space f) a.follows;
  later = omega (arith, later, a.later);
  caused = caused_later c.serve-end.result _ _ _ _ _ _ f.later later a.caused;
}
