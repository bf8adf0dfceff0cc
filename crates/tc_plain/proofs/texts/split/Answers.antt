use Rattle.std.proofs.Common.{◌≡◌, ◌∙◌, ◌++◌, ◌∷◌, [], ℕ, List, sym, subst, ap}
use Rattle.std.specs.List.{slice_split}
use Rattle.tc_plain.specs.Splits.{cuts}
use Rattle.tc_plain.proofs.Cutting.{cut_step, cut_end}
use Rattle.tc_plain.proofs.texts.split.Goals as goal

pub loop-at-preserved : goal.loop-at-preserved
loop-at-preserved c =
    subst (λ (rest : List ℕ). c.push.new.self ++ slice_split (cuts c.args.blank) rest ≡ slice_split (cuts c.args.blank) c.args.text.now) (sym c.behind-rest.ensures)
    (cut_step (cuts c.args.blank) c.loop-at.rest.now _ _ _ c.in-Some.at c.in-Some.ensures.0 c.in-Some.ensures.1 c.loop-at.invariant (c.in_ok-push.ensures.ok ∙ ap (λ part. c.loop-at.found ++ part ∷ []) c.in_ok-from_slice.ensures))

pub returns : goal.returns
returns c = cut_end (cuts c.args.blank) c.loop-at.rest.now _ _ _ c.in_default.ensures c.loop-at.invariant (c.in_ok-push-2.ensures.ok ∙ ap (λ part. c.loop-at.found ++ part ∷ []) c.in_ok-from_slice-2.ensures)
