use Rattle.std.proofs.Common.{◌≡◌, inl, inr, sym, subst, refl, rules, ◌∙◌, false, Bool, []}
use Rattle.tc_model.specs.Contents.{Contents}
use Rattle.ty_base.specs.Holding.{Laid}
use Rattle.ty_base.specs.Opening.{OpensTo}
use Rattle.ty_world.specs.World.{Mark}
use Rattle.tc_base.specs.Files.{Files}
use Rattle.tk_mgr.specs.Managing.{ArePacked, FormedFrom, packing, said_by, task_less}
use Rattle.tk_top.specs.Staying.{BreaksOver}
use Rattle.tk_top.specs.Tasks.{IsMisplaced, JudgedTask, ManagesOver, ReasonOver, is_refused_by, wants_empty}
use Rattle.std.specs.Prelude.{Some}
use Rattle.tc_base.specs.declared.kind.Form.TheVariants as forms
use Rattle.tk_top.specs.Serving.{Begins}
use Rattle.tk_top.specs.declared.ends.End.{End}
use Rattle.ty_base.specs.declared.errors.AnyErr.TheVariants as any
use Rattle.tc_space.specs.Frames.{only_reads_refl}
use Rattle.tk_top.proofs.Kept.{full_err, still_same}
use Rattle.tk_top.proofs.Managed.{done_is, full_is, judged_begun, over_managed, over_misplaced, over_unopened, packs_there, placed_writes, reads_there, unbegun_of}
use Rattle.tk_top.proofs.Fresh.{fresh}
use Rattle.tk_top.proofs.Laying.{holds_said, moves_said}
use Rattle.tk_top.proofs.managing.manage_opened.Goals as goal

pub returns-then-not-is_placed-clause-told : goal.returns-then-not-is_placed-clause-told
returns-then-not-is_placed-clause-told g c = let s = g.B.S.Space in let b = g.B.Storage in
    over_misplaced s g.O.Sink (OpensTo c.args.kind b.reopens) b.reopens (λ files d h. h.stand) b.lines (b.packed (g.B.S.Space.now c.args.space.now)) c.args.task c.args.space.now c.args.out.now
    (fresh g.B.S.Space c.args.space.now g.met.B.S.Space.only_kept g.met.B.S.Space.clean c.requires.sound c.requires.untouched)
    (λ t. subst (λ (b : Bool). is_refused_by b (s.now c.args.space.now 0)) c.wants_empty.ensures (c.if-not-is_placed.ensures.no (search rules) (s.now c.args.space.now 0) (c.len.ensures t)))

pub returns-in-Err-clause-told : goal.returns-in-Err-clause-told
returns-in-Err-clause-told g c = let s = g.B.S.Space in let b = g.B.Storage in
    subst (λ (end : End). ManagesOver s g.O.Sink (OpensTo c.args.kind b.reopens) b.reopens b.lines (b.packed (g.B.S.Space.now c.args.space.now)) c.args.task end c.args.space.now c.open_kept.new.space c.args.out.now c.args.out.now) (sym c.from.ensures)
    (over_unopened s g.O.Sink (OpensTo c.args.kind b.reopens) b.reopens (λ files d h. h.stand) b.lines (b.packed (g.B.S.Space.now c.args.space.now)) c.args.task c.in-Err.e c.args.space.now c.open_kept.new.space c.args.out.now
    (fresh g.B.S.Space c.args.space.now g.met.B.S.Space.only_kept g.met.B.S.Space.clean c.requires.sound c.requires.untouched)
    (g.met.B.S.Space.earlier c.open_kept.new.space) c.open_kept.ensures.moments
    (λ t reads. (c.open_kept.ensures.there t (λ empty. c.if-not-is_placed.ensures.yes (search rules) (s.now c.args.space.now 0) (c.len.ensures t) (subst (λ (e : Bool). is_refused_by e (s.now c.args.space.now 0)) (sym (c.wants_empty.ensures ∙ reads_there c.args.task reads)) empty))).rests))

pub manage-requires : goal.manage-requires
manage-requires g c = let s = g.B.S.Space in record {
  may = record {
    sound = c.in-Ok.ensures.opened.ready.sound;
    untouched = c.in-Ok.ensures.opened.untouched;
    stands = λ t.
        let x = c.in-Ok.ensures.opened.stands t in
        let hm = c.in-Ok.ensures.opened.marks (record { contents = x.0; log = s.now c.args.space.now 2 }) (t, record { contents = x.1; log = refl }) in
        (x.0, hm.has.held.1, hm.stand);
  };
}

pub returns-clause-told : goal.returns-clause-told
returns-clause-told g c = let s = g.B.S.Space in let b = g.B.Storage in let old = c.args.space.now in let mid = c.open_kept.new.space in
    let placed : s.tells → IsMisplaced c.args.task (s.now old) → ⊥ = λ t m. c.if-not-is_placed.ensures.yes (search rules) (s.now old 0) (c.len.ensures t) (subst (λ (e : Bool). is_refused_by e (s.now old 0)) (sym c.wants_empty.ensures) m) in
    let same : s.tells → wants_empty c.args.task ≡ false → s.now mid ≡ s.now old = λ t w. still_same (g.B.Opens.shaped g.B.Opens.usual) (s.now old) (s.now mid) (c.in-Ok.ensures.opened.still t) (subst (λ (e : Bool). is_refused_by e (s.now old 0) → ⊥) w (placed t)) in
    subst (λ (end : End). ManagesOver s g.O.Sink (OpensTo c.args.kind b.reopens) b.reopens b.lines (b.packed (g.B.S.Space.now c.args.space.now)) c.args.task end old c.manage.new.space c.args.out.now c.manage.new.out) (sym c.end_of-end.ensures)
    (over_managed s g.O.Sink (OpensTo c.args.kind b.reopens) b.reopens (λ files d h. h.stand) b.lines (b.packed (g.B.S.Space.now c.args.space.now)) c.args.task b.holds c.manage.result c.in-Ok.base old mid c.manage.new.space c.args.out.now c.manage.new.out
    (fresh g.B.S.Space old g.met.B.S.Space.only_kept g.met.B.S.Space.clean c.requires.sound c.requires.untouched)
    (fresh g.B.S.Space mid g.met.B.S.Space.only_kept g.met.B.S.Space.clean c.in-Ok.ensures.opened.ready.sound c.in-Ok.ensures.opened.untouched)
    (g.met.B.S.Space.earlier c.manage.new.space) c.open_kept.ensures.moments c.in-Ok.ensures.opened.marks same
    placed c.manage.ensures.reads c.manage.ensures.managed
    (λ m h f packs done o l. subst (λ (was : Files). ArePacked (b.packed was) f o) (same h.has.held.0 (packs_there c.args.task f packs)) (c.manage.ensures.packs m h f packs done o l)))

pub returns-clause-judged : goal.returns-clause-judged
returns-clause-judged g c = let s = g.B.S.Space in let opens = OpensTo c.args.kind g.B.Storage.reopens in let old = c.args.space.now in
    let breaks = BreaksOver s (g.B.Opens.breaks c.args.kind) old c.manage.new.space in
    subst (λ (end : End). JudgedTask end (s.tells → (d : Contents) × opens (s.now old) d) breaks (ReasonOver s opens c.args.task old)) (sym c.end_of-end.ensures)
    (judged_begun c.manage.result (s.tells → (d : Contents) × opens (s.now old) d) (ReasonOver s opens c.args.task old) breaks c.in-Ok.ensures.opened.stands
    (λ bad. record {
      which = λ t.
          let x = c.in-Ok.ensures.opened.stands t in
          let m : Mark = record { contents = x.0; log = s.now old 2 } in
          let hm = c.in-Ok.ensures.opened.marks m (t, record { contents = x.1; log = refl }) in
          inr (x.0, x.1, sym ((c.manage.ensures.managed.by m hm).ok false bad));
    }))

pub returns-clause-full : goal.returns-clause-full
returns-clause-full g c = λ is.
    let s = g.B.S.Space in
    let old = c.args.space.now in
    let mid = c.open_kept.new.space in
    let full = full_is c.manage.result (sym c.end_of-end.ensures ∙ is) in
    let placed : s.tells → IsMisplaced c.args.task (s.now old) → ⊥ = λ t m. c.if-not-is_placed.ensures.yes (search rules) (s.now old 0) (c.len.ensures t) (subst (λ (e : Bool). is_refused_by e (s.now old 0)) (sym c.wants_empty.ensures) m) in
    let same : (first : Mark) → Begins s (OpensTo c.args.kind g.B.Storage.reopens) old first → packing c.args.task ≡ Some forms.Large → s.now mid ≡ s.now old = λ first h packs.
    still_same (g.B.Opens.shaped g.B.Opens.usual) (s.now old) (s.now mid) (c.in-Ok.ensures.opened.still h.0) (subst (λ (e : Bool). is_refused_by e (s.now old 0) → ⊥) (packs_there c.args.task forms.Large packs) (placed h.0)) in record {
      writes = λ t. c.manage.ensures.writes full;
      which = inr (λ first h.
          let e = g.met.B.Storage.since_more c.args.space.now c.open_kept.new.space c.manage.new.space (c.open_kept.ensures.moments first h).leaves.later in
          task_less (g.B.S.Space.log_full c.manage.new.space) (g.B.Storage.fills_since c.open_kept.new.space c.manage.new.space) (g.B.Storage.fills_since c.args.space.now c.manage.new.space) (g.B.Storage.lacks_large c.open_kept.new.space c.manage.new.space) (g.B.Storage.lacks_large c.args.space.now c.manage.new.space) c.args.task first.contents e.fills (λ packs d lacks. e.large (sym (same first h packs)) d lacks) (c.manage.ensures.full full first (c.in-Ok.ensures.opened.marks first h)));
    }

pub returns-in-Err-clause-full : goal.returns-in-Err-clause-full
returns-in-Err-clause-full g c = λ is. let s = g.B.S.Space in let old = c.args.space.now in let e : c.in-Err.e ≡ any.Full = full_err c.in-Err.e (sym c.from.ensures ∙ is) in
    let placed : s.tells → IsMisplaced c.args.task (s.now old) → ⊥ = λ t m. c.if-not-is_placed.ensures.yes (search rules) (s.now old 0) (c.len.ensures t) (subst (λ (b : Bool). is_refused_by b (s.now old 0)) (sym c.wants_empty.ensures) m) in record {
      writes = λ t. placed_writes c.args.task (s.now old) (placed t) (c.in-Err.ensures.full (search rules) t).empty;
      which = inl (λ t. let new = c.in-Err.ensures.full (search rules) t in (new.empty, new.full));
    }

pub returns-then-not-is_placed-clause-guards : goal.returns-then-not-is_placed-clause-guards
returns-then-not-is_placed-clause-guards g c = record { begun = inl refl; spared = λ t damaged. only_reads_refl g.B.S.Space c.args.space.now c.requires.sound; misplaced = λ t not. (refl, refl) }

pub returns-in-Err-clause-guards : goal.returns-in-Err-clause-guards
returns-in-Err-clause-guards g c = let main = g.B.S.Space.now c.args.space.now 0 in record {
  begun = inl refl;
  spared = λ t damaged. (c.open_kept.ensures.there t damaged.some).spared damaged.none;
  misplaced = λ t not. absurd (c.if-not-is_placed.ensures.yes (search rules) main (c.len.ensures t) (subst (λ (e : Bool). is_refused_by e main) (sym c.wants_empty.ensures) not));
}

pub returns-clause-guards : goal.returns-clause-guards
returns-clause-guards g c = let main = g.B.S.Space.now c.args.space.now 0 in let stands = c.in-Ok.ensures.opened.stands in record {
  begun = inr stands;
  spared = λ t damaged. let x = stands t in absurd (damaged.none x.0 x.1);
  misplaced = λ t not. absurd (c.if-not-is_placed.ensures.yes (search rules) main (c.len.ensures t) (subst (λ (e : Bool). is_refused_by e main) (sym c.wants_empty.ensures) not));
}

pub returns-then-not-is_placed-clause-formed : goal.returns-then-not-is_placed-clause-formed
returns-then-not-is_placed-clause-formed g c = record { formed = λ first h f packs done. absurd cc }

pub returns-in-Err-clause-formed : goal.returns-in-Err-clause-formed
returns-in-Err-clause-formed g c = record { formed = λ first h f packs done. absurd ((unbegun_of c.in-Err.e).not_done (sym c.from.ensures ∙ done)) }

pub returns-clause-formed : goal.returns-clause-formed
returns-clause-formed g c = let s = g.B.S.Space in let b = g.B.Storage in let old = s.now c.args.space.now in let mid = s.now c.open_kept.new.space in record {
  formed = λ first h f packs done o l.
      let main : old 0 ≡ [] → ⊥ = λ empty. c.if-not-is_placed.ensures.yes (search rules) (old 0) (c.len.ensures h.0) (subst (λ (e : Bool). is_refused_by e (old 0)) (sym (c.wants_empty.ensures ∙ packs_there c.args.task f packs)) empty) in
      let same : mid ≡ old = still_same (g.B.Opens.shaped g.B.Opens.usual) old mid (c.in-Ok.ensures.opened.still h.0) main in
      subst (λ (was : Files). ArePacked (FormedFrom b.layout was) f o) same
      (c.manage.ensures.formed first (c.in-Ok.ensures.opened.marks first h) f packs (done_is c.manage.result (sym c.end_of-end.ensures ∙ done)) o l);
}

-- ---- laid out like what was there

pub returns-then-not-is_placed-clause-laid : goal.returns-then-not-is_placed-clause-laid
returns-then-not-is_placed-clause-laid g c = λ l. let s = g.B.S.Space in let b = g.B.Storage in let like = (Laid b.own (said_by (packing c.args.task) b.layout) l b.reopens) in
    over_misplaced s g.O.Sink (OpensTo c.args.kind like) like (λ files d h. h.stand) b.lines (b.packed (g.B.S.Space.now c.args.space.now)) c.args.task c.args.space.now c.args.out.now
    (fresh g.B.S.Space c.args.space.now g.met.B.S.Space.only_kept g.met.B.S.Space.clean c.requires.sound c.requires.untouched)
    (λ t. subst (λ (b : Bool). is_refused_by b (s.now c.args.space.now 0)) c.wants_empty.ensures (c.if-not-is_placed.ensures.no (search rules) (s.now c.args.space.now 0) (c.len.ensures t)))

pub returns-in-Err-clause-laid : goal.returns-in-Err-clause-laid
returns-in-Err-clause-laid g c = λ l. let s = g.B.S.Space in let b = g.B.Storage in let like = (Laid b.own (said_by (packing c.args.task) b.layout) l b.reopens) in
    subst (λ (end : End). ManagesOver s g.O.Sink (OpensTo c.args.kind like) like b.lines (b.packed (g.B.S.Space.now c.args.space.now)) c.args.task end c.args.space.now c.open_kept.new.space c.args.out.now c.args.out.now) (sym c.from.ensures)
    (over_unopened s g.O.Sink (OpensTo c.args.kind like) like (λ files d h. h.stand) b.lines (b.packed (g.B.S.Space.now c.args.space.now)) c.args.task c.in-Err.e c.args.space.now c.open_kept.new.space c.args.out.now
    (fresh g.B.S.Space c.args.space.now g.met.B.S.Space.only_kept g.met.B.S.Space.clean c.requires.sound c.requires.untouched)
    (g.met.B.S.Space.earlier c.open_kept.new.space) (moves_said b.holds b.reopens b.own b.layout c.args.kind s c.args.space.now c.open_kept.new.space (packing c.args.task) c.open_kept.ensures.moved l)
    (λ t reads. (c.open_kept.ensures.there t (λ empty. c.if-not-is_placed.ensures.yes (search rules) (s.now c.args.space.now 0) (c.len.ensures t) (subst (λ (e : Bool). is_refused_by e (s.now c.args.space.now 0)) (sym (c.wants_empty.ensures ∙ reads_there c.args.task reads)) empty))).rests))

pub returns-clause-laid : goal.returns-clause-laid
returns-clause-laid g c = λ l. let s = g.B.S.Space in let b = g.B.Storage in let old = c.args.space.now in let mid = c.open_kept.new.space in let like = (Laid b.own (said_by (packing c.args.task) b.layout) l b.reopens) in
    let placed : s.tells → IsMisplaced c.args.task (s.now old) → ⊥ = λ t m. c.if-not-is_placed.ensures.yes (search rules) (s.now old 0) (c.len.ensures t) (subst (λ (e : Bool). is_refused_by e (s.now old 0)) (sym c.wants_empty.ensures) m) in
    let same : s.tells → wants_empty c.args.task ≡ false → s.now mid ≡ s.now old = λ t w. still_same (g.B.Opens.shaped g.B.Opens.usual) (s.now old) (s.now mid) (c.in-Ok.ensures.opened.still t) (subst (λ (e : Bool). is_refused_by e (s.now old 0) → ⊥) w (placed t)) in
    subst (λ (end : End). ManagesOver s g.O.Sink (OpensTo c.args.kind like) like b.lines (b.packed (g.B.S.Space.now c.args.space.now)) c.args.task end old c.manage.new.space c.args.out.now c.manage.new.out) (sym c.end_of-end.ensures)
    (over_managed s g.O.Sink (OpensTo c.args.kind like) like (λ files d h. h.stand) b.lines (b.packed (g.B.S.Space.now c.args.space.now)) c.args.task b.holds c.manage.result c.in-Ok.base old mid c.manage.new.space c.args.out.now c.manage.new.out
    (fresh g.B.S.Space old g.met.B.S.Space.only_kept g.met.B.S.Space.clean c.requires.sound c.requires.untouched)
    (fresh g.B.S.Space mid g.met.B.S.Space.only_kept g.met.B.S.Space.clean c.in-Ok.ensures.opened.ready.sound c.in-Ok.ensures.opened.untouched)
    (g.met.B.S.Space.earlier c.manage.new.space) (moves_said b.holds b.reopens b.own b.layout c.args.kind s c.args.space.now c.open_kept.new.space (packing c.args.task) c.open_kept.ensures.moved l)
    (holds_said b.holds b.reopens b.own b.layout c.args.kind s c.args.space.now c.open_kept.new.space (packing c.args.task) c.in-Ok.base c.in-Ok.ensures.laid l) same
    placed c.manage.ensures.reads (c.manage.ensures.laid l)
    (λ m h f packs done o left. subst (λ (was : Files). ArePacked (b.packed was) f o) (same h.has.held.0 (packs_there c.args.task f packs)) (c.manage.ensures.packs m (record { has = h.has; stand = h.stand.stand }) f packs done o left)))
