use Rattle.std.proofs.Common.{◌≡◌, ◌⊎◌, ⊎_elim, ℕ, List, [], ◌∷◌, true, false, rules, arith, refl, ap, ◌∙◌, subst}
use Rattle.std.specs.Prelude.{Option, None}
use Rattle.tc_io.specs.Script.{Plays}
use Rattle.tc_io.specs.Told.{Adds}
use Rattle.tc_io.specs.declared.wire.Entry.TheVariants.{Open}
use Rattle.ty_base.specs.Holding.{Laid}
use Rattle.ty_ulog.specs.Noting.{Lacks}
use Rattle.ty_world.specs.Logs.{plain}
use Rattle.ty_world.specs.World.{Mark}
use Rattle.ty_rounds.specs.Books.{settings_of}
use Rattle.ty_rounds.specs.Kept.{HoldsMark}
use Rattle.ty_rounds.specs.declared.logging.Logged.{Logged}
use Rattle.tk_top.specs.Runs.{Ends, FullRun}
use Rattle.tk_top.specs.Starts.{StartsAs, plainly}
use Rattle.tk_top.proofs.Causes.{caused_later}
use Rattle.tk_top.proofs.Kept.{full_plain}
use Rattle.tk_top.proofs.Over.{full_open, over_plain, over_unopened}
use Rattle.tk_top.proofs.Starting.{ready_at}
use Rattle.tk_top.proofs.Fresh.{fresh}
use Rattle.tk_top.proofs.base.serve_base.Goals as goal

pub serve-end-requires-clause-ready : goal.serve-end-requires-clause-ready
serve-end-requires-clause-ready g c = let s = g.B.S.Space in let w = g.W.Wire in
    let opened : w.opened c.open.new.self ≡ true = search rules in
    ready_at s w g.B.Storage.holds c.args.base c.new-server.result.base c.args.space.now c.open.new.self c.new-server.result.logged c.new-server.result.peers.items c.new-server.ensures.base c.new-server.ensures.peers opened (c.open.ensures.lines.conns ∙ g.met.W.Wire.none_before c.args.wire.now c.requires.opened) c.requires.ready c.requires.untouched

pub returns-in-Err-clause-told : goal.returns-in-Err-clause-told
returns-in-Err-clause-told g c = let s = g.B.S.Space in let w = g.W.Wire in
    let told : Adds (w.transcript c.args.wire.now) (w.transcript c.open.new.self) [] ⊎ Adds (w.transcript c.args.wire.now) (w.transcript c.open.new.self) (Open c.args.at.now ∷ []) = search rules in
    over_unopened s w g.B.Storage.holds g.B.Storage.reopens plainly (HoldsMark s g.B.Storage.holds g.B.Storage.reopens c.args.base c.args.space.now) c.args.base c.args.turns c.args.at.now c.args.space.now _ _
    (fresh g.B.S.Space c.args.space.now g.met.B.S.Space.only_kept g.met.B.S.Space.clean c.requires.ready.sound c.requires.untouched) (λ m h. h) (λ m h on. absurd (let e : false ≡ true = on in cc)) told

pub returns-clause-told : goal.returns-clause-told
returns-clause-told g c = let s = g.B.S.Space in let w = g.W.Wire in
    let told : Adds (w.transcript c.args.wire.now) (w.transcript c.open.new.self) (Open c.args.at.now ∷ []) = search rules in
    let plays : Plays (w.plays c.args.wire.now) (w.plays c.open.new.self) (Open c.args.at.now ∷ []) = search rules in
    over_plain s w g.B.Storage.holds g.B.Storage.reopens g.E.Sink c.new-server.result.logged c.args.base c.serve-end.result c.args.turns c.args.at.now c.args.space.now c.serve-end.new.space _ _ _ _ _ _ _ c.new-server.ensures.logged
    (fresh g.B.S.Space c.args.space.now g.met.B.S.Space.only_kept g.met.B.S.Space.clean c.requires.ready.sound c.requires.untouched) (g.met.B.S.Space.earlier c.serve-end.new.space) told plays
    (subst (λ b. Ends s w g.E.Sink g.B.Storage.holds g.B.Storage.reopens c.serve-end.result c.args.turns c.new-server.result.logged b c.args.space.now c.serve-end.new.space c.open.new.self c.serve-end.new.wire (g.K.Clock.answers c.args.clock.now) (g.K.Clock.answers c.serve-end.new.clock) c.args.err.now c.serve-end.new.err) c.new-server.ensures.base c.serve-end.ensures.told.ends)

pub returns-clause-full : goal.returns-clause-full
returns-clause-full g c = λ is. let s = g.B.S.Space in let w = g.W.Wire in let b = g.B.Storage in
    let told : Adds (w.transcript c.args.wire.now) (w.transcript c.open.new.self) (Open c.args.at.now ∷ []) = search rules in
    let fills = b.fills_since c.args.space.now c.serve-end.new.space in
    let e = c.serve-end.ensures.told in
    full_plain fills (Lacks s c.serve-end.new.space) (HoldsMark s b.holds b.reopens c.args.base c.args.space.now) (λ (m : Mark). HoldsMark s b.holds b.reopens c.args.base c.args.space.now m × StartsAs None m) [] _ _ (λ m h. (h, record { is_same = refl; holds = tt }))
    (full_open fills (Lacks s c.serve-end.new.space) plain (λ (m : Mark). HoldsMark s b.holds b.reopens c.args.base c.args.space.now m × StartsAs None m) c.args.at.now [] _ _ _ told
    (subst (λ (l : Option Logged). FullRun fills (Lacks s c.serve-end.new.space) (settings_of l) (λ (m : Mark). HoldsMark s b.holds b.reopens c.args.base c.args.space.now m × StartsAs l m) (c.args.at.now ∷ []) [] (w.transcript c.open.new.self) (w.transcript c.serve-end.new.wire)) c.new-server.ensures.logged
    (subst (λ base. FullRun fills (Lacks s c.serve-end.new.space) (settings_of c.new-server.result.logged) (λ (m : Mark). HoldsMark s b.holds b.reopens base c.args.space.now m × StartsAs c.new-server.result.logged m) (c.args.at.now ∷ []) [] (w.transcript c.open.new.self) (w.transcript c.serve-end.new.wire)) c.new-server.ensures.base
    (subst (λ (ticks : List ℕ). FullRun fills (Lacks s c.serve-end.new.space) (settings_of c.new-server.result.logged) (λ (m : Mark). HoldsMark s b.holds b.reopens c.new-server.result.base c.args.space.now m × StartsAs c.new-server.result.logged m) (c.args.at.now ∷ []) ticks (w.transcript c.open.new.self) (w.transcript c.serve-end.new.wire))
    (e.ends.unticked (ap (λ (l : Option Logged). (settings_of l).logs) c.new-server.ensures.logged)) (e.full is (c.args.at.now ∷ []))))))

pub returns-clause-silent : goal.returns-clause-silent
returns-clause-silent g c = let e = c.serve-end.ensures.told.ends in e.tells.silent (e.none_met (ap (λ (l : Option Logged). (settings_of l).master) c.new-server.ensures.logged))

pub returns-in-Err-clause-sound : goal.returns-in-Err-clause-sound
returns-in-Err-clause-sound g c = λ out. absurd (⊎_elim (λ is. cc) (λ is. cc) out)

pub returns-clause-accounted : goal.returns-clause-accounted
returns-clause-accounted g c = let a = c.serve-end.ensures.accounted in let later = c.open.ensures.cause.later in
    record { follows = a.follows; later = omega (arith, later, a.later); caused = caused_later c.serve-end.result _ _ _ _ _ _ (omega arith) later a.caused }

pub returns-in-Err-clause-laid : goal.returns-in-Err-clause-laid
returns-in-Err-clause-laid g c = λ l. let s = g.B.S.Space in let w = g.W.Wire in
    let told : Adds (w.transcript c.args.wire.now) (w.transcript c.open.new.self) [] ⊎ Adds (w.transcript c.args.wire.now) (w.transcript c.open.new.self) (Open c.args.at.now ∷ []) = search rules in
    over_unopened s w g.B.Storage.holds (Laid g.B.Storage.own g.B.Storage.layout l g.B.Storage.reopens) plainly (HoldsMark s g.B.Storage.holds (Laid g.B.Storage.own g.B.Storage.layout l g.B.Storage.reopens) c.args.base c.args.space.now) c.args.base c.args.turns c.args.at.now c.args.space.now _ _
    (fresh g.B.S.Space c.args.space.now g.met.B.S.Space.only_kept g.met.B.S.Space.clean c.requires.ready.sound c.requires.untouched) (λ m h. h) (λ m h on. absurd (let e : false ≡ true = on in cc)) told

pub returns-clause-laid : goal.returns-clause-laid
returns-clause-laid g c = λ l. let s = g.B.S.Space in let w = g.W.Wire in
    let told : Adds (w.transcript c.args.wire.now) (w.transcript c.open.new.self) (Open c.args.at.now ∷ []) = search rules in
    let plays : Plays (w.plays c.args.wire.now) (w.plays c.open.new.self) (Open c.args.at.now ∷ []) = search rules in
    over_plain s w g.B.Storage.holds (Laid g.B.Storage.own g.B.Storage.layout l g.B.Storage.reopens) g.E.Sink c.new-server.result.logged c.args.base c.serve-end.result c.args.turns c.args.at.now c.args.space.now c.serve-end.new.space _ _ _ _ _ _ _ c.new-server.ensures.logged
    (fresh g.B.S.Space c.args.space.now g.met.B.S.Space.only_kept g.met.B.S.Space.clean c.requires.ready.sound c.requires.untouched) (g.met.B.S.Space.earlier c.serve-end.new.space) told plays
    (subst (λ b. Ends s w g.E.Sink g.B.Storage.holds (Laid g.B.Storage.own g.B.Storage.layout l g.B.Storage.reopens) c.serve-end.result c.args.turns c.new-server.result.logged b c.args.space.now c.serve-end.new.space c.open.new.self c.serve-end.new.wire (g.K.Clock.answers c.args.clock.now) (g.K.Clock.answers c.serve-end.new.clock) c.args.err.now c.serve-end.new.err) c.new-server.ensures.base (c.serve-end.ensures.laid l))
