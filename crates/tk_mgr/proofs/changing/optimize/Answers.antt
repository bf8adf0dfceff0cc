use Rattle.std.proofs.Common.{◌∙◌, ap, arith, refl, rules, subst, true}
use Rattle.std.specs.Prelude.{None}
use Rattle.tc_space.specs.Stores.{in_form}
use Rattle.ty_base.proofs.Refusals.{err_is}
use Rattle.ty_base.specs.Holding.{Laid, beside_laid, frame_of, frame_then, layout_refl, log_stays, no_layout, others_beside}
use Rattle.ty_rounds.specs.Keeping.{kept_frame}
use Rattle.ty_rounds.specs.Kept.{HasMark}
use Rattle.ty_rounds.proofs.Laying.{mark_less, moves_less}
use Rattle.tk_mgr.specs.Errors.{mgr_of}
use Rattle.tk_mgr.specs.Managing.{FormedFrom}
use Rattle.tc_base.specs.declared.kind.Form.{Form}
use Rattle.tk_mgr.proofs.Ends.{carries_kept, carries_refused, carries_unkept, mgr_not_sink, packs_left}
use Rattle.tk_mgr.proofs.changing.optimize.Goals as goal

pub returns-clause-packs : goal.returns-clause-packs
returns-clause-packs g c = λ m h f is done o l.
    let s = g.B.S.Space in
    let k = c.in_ok-save.ensures.kept in
    packs_left s g.B.Storage.reopens (g.B.Storage.packed (s.now c.args.space.now)) c.args.large f c.save.new.space is h.has.held.0
    (record { sound = k.ready.sound; only = λ p u left. g.met.B.S.Space.only_kept c.save.new.space p u k.ready.sound left; clean = λ u. g.met.B.S.Space.clean c.save.new.space u k.ready.sound k.untouched })
    (subst (λ (d : Form). g.B.Storage.packed (s.now c.args.space.now) d (s.now c.save.new.space)) c.form_of.ensures (c.in_ok-save.ensures.packs refl (s.now c.args.space.now) _ m.contents (c.in_ok-pack.ensures.tight m.contents h.has.held) (c.in_ok-pack.ensures.packed m.contents h.has.held))) o l

pub returns-clause-formed : goal.returns-clause-formed
returns-clause-formed g c = λ m h f is done o l.
    let s = g.B.S.Space in
    let b = g.B.Storage in
    let k = c.in_ok-save.ensures.laid in
    let old = s.now c.args.space.now in
    let kept = k.marks m (record { held = c.in_ok-pack.ensures.packed m.contents h.has.held; log = (log_stays s b.own c.args.space.now c.pack.new.space g.met.B.Storage.no_logs.1 c.in_ok-pack.ensures.others).same h.has.held.0 ∙ h.has.log }) (λ none. absurd cc) in
    let like = kept.stand.like in
    let forms = c.in_ok-pack.ensures.formed m.contents h.has.held in
    packs_left s b.reopens (FormedFrom b.layout old) c.args.large f c.save.new.space is h.has.held.0
    (record { sound = k.ready.sound; only = λ p u left. g.met.B.S.Space.only_kept c.save.new.space p u k.ready.sound left; clean = λ u. g.met.B.S.Space.clean c.save.new.space u k.ready.sound k.untouched })
    (record {
      numbers = like.layout.numbers.same ∙ (forms.numbers ∙ ap (λ (d : Form). in_form d (b.layout old).numbers) c.form_of.ensures);
      lead = let kept_lead = like.layout.numbers.lead in let packed_lead = forms.lead in omega (arith, kept_lead, packed_lead);
      none = let none = like.layout.slack in omega (arith, none);
    }) o l

-- ---- files beside them

pub returns-in_err-pack-clause-laid : goal.returns-in_err-pack-clause-laid
returns-in_err-pack-clause-laid g c = λ l m h. let b = g.B.Storage in
    rw (err_is c.from_residual.result _ c.from_residual.ensures.1) (carries_refused g.B.S.Space (Laid b.own no_layout l b.reopens) b.holds None (mgr_of c.in_err-pack.field-0.0) c.args.base.now c.args.space.now c.pack.new.space m
    (mgr_not_sink c.in_err-pack.field-0.0)
    (record { sound = c.requires.may.sound; only = λ o t l. g.met.B.S.Space.only_kept c.args.space.now o t c.requires.may.sound l; clean = λ t. g.met.B.S.Space.clean c.args.space.now t c.requires.may.sound c.requires.may.untouched })
    c.pack.ensures.keeps h)

pub returns-in_err-save-clause-laid : goal.returns-in_err-save-clause-laid
returns-in_err-save-clause-laid g c = λ l m h.
    let s = g.B.S.Space in
    let b = g.B.Storage in
    let now = kept_frame true (frame_of b.layout (s.now c.pack.new.space)) in
    let was = frame_then b.own l (frame_of no_layout (s.now c.args.space.now)) (frame_of no_layout (s.now c.pack.new.space)) h.stand.like (record { layout = layout_refl (no_layout (s.now c.pack.new.space)); beside = others_beside s b.own c.args.space.now c.pack.new.space h.has.held.0 c.in_ok-pack.ensures.others }) in
    let has : HasMark s b.holds c.pack.new.self c.pack.new.space m = record { held = c.in_ok-pack.ensures.packed m.contents h.has.held; log = (log_stays s b.own c.args.space.now c.pack.new.space g.met.B.Storage.no_logs.1 c.in_ok-pack.ensures.others).same h.has.held.0 ∙ h.has.log } in
    rw (err_is c.from_residual-in_err-save.result _ c.from_residual-in_err-save.ensures.1) (carries_unkept s (Laid b.own no_layout l b.reopens) b.holds None c.in_err-save.field-0.0 c.args.base.now c.args.space.now c.pack.new.space c.save.new.space m
    (λ is. c.in_err-save.ensures.not_sink (search (rules, is)))
    (record { sound = c.requires.may.sound; only = λ o t l. g.met.B.S.Space.only_kept c.args.space.now o t c.requires.may.sound l; clean = λ t. g.met.B.S.Space.clean c.args.space.now t c.requires.may.sound c.requires.may.untouched })
    c.pack.ensures.keeps
    (moves_less s b.holds (Laid b.own b.layout now b.reopens) (Laid b.own no_layout l b.reopens) (λ files d laid. beside_laid b.own b.layout b.reopens l now files d was laid) c.pack.new.space c.save.new.space m (c.save.ensures.moved m has))
    h)

pub returns-clause-laid : goal.returns-clause-laid
returns-clause-laid g c = λ l m h.
    let s = g.B.S.Space in
    let b = g.B.Storage in
    let k = c.in_ok-save.ensures.laid in
    let now = kept_frame true (frame_of b.layout (s.now c.pack.new.space)) in
    let was = frame_then b.own l (frame_of no_layout (s.now c.args.space.now)) (frame_of no_layout (s.now c.pack.new.space)) h.stand.like (record { layout = layout_refl (no_layout (s.now c.pack.new.space)); beside = others_beside s b.own c.args.space.now c.pack.new.space h.has.held.0 c.in_ok-pack.ensures.others }) in
    let has : HasMark s b.holds c.pack.new.self c.pack.new.space m = record { held = c.in_ok-pack.ensures.packed m.contents h.has.held; log = (log_stays s b.own c.args.space.now c.pack.new.space g.met.B.Storage.no_logs.1 c.in_ok-pack.ensures.others).same h.has.held.0 ∙ h.has.log } in
    carries_kept s (Laid b.own no_layout l b.reopens) b.holds None true c.args.base.now c.save.new.base c.args.space.now c.pack.new.space c.save.new.space m refl
    (record { sound = c.requires.may.sound; only = λ o t l. g.met.B.S.Space.only_kept c.args.space.now o t c.requires.may.sound l; clean = λ t. g.met.B.S.Space.clean c.args.space.now t c.requires.may.sound c.requires.may.untouched })
    (record { sound = k.ready.sound; only = λ o t x. g.met.B.S.Space.only_kept c.save.new.space o t k.ready.sound x; clean = λ t. g.met.B.S.Space.clean c.save.new.space t k.ready.sound k.untouched })
    c.pack.ensures.keeps
    (moves_less s b.holds (Laid b.own b.layout now b.reopens) (Laid b.own no_layout l b.reopens) (λ files d laid. beside_laid b.own b.layout b.reopens l now files d was laid) c.pack.new.space c.save.new.space m (c.save.ensures.moved m has))
    (mark_less s b.holds (Laid b.own b.layout now b.reopens) (Laid b.own no_layout l b.reopens) (λ files d laid. beside_laid b.own b.layout b.reopens l now files d was laid) c.save.new.base c.save.new.space m (k.marks m has (λ none. absurd cc)))
    h
