use Rattle.std.proofs.Common.{◌∙◌, ◌∷◌, List, ℕ, ap}
use Rattle.std.specs.Option.{option_copied}
use Rattle.td_row.specs.Texts.{left_parts}
use Rattle.td_row.proofs.Parts.{part_set, part_refused, err_handed}
use Rattle.td_row.proofs.row.Row.from_text.Goals as goal

pub loop-left-preserved : goal.loop-left-preserved
loop-left-preserved c =
    part_set c.loop-left.row c.replace.new.self _ _ c.part_of.result.0.now c.part_of-in-Some.result.0.now _
    (ap (λ o. left_parts (option_copied o)) c.in-Some.is ∙ c.part_of.ensures.parts
    ∙ ap (λ o. c.part_of.result.0.now ∷ left_parts (option_copied o)) c.in-Some-behind.is
    ∙ ap (λ (ps : List (List ℕ)). c.part_of.result.0.now ∷ ps) c.part_of-in-Some.ensures.parts)
    c.in_ok-replace.ensures.column c.in_ok-replace.ensures.added c.loop-left.invariant

pub returns-in_err-replace-clause-bad : goal.returns-in_err-replace-clause-bad
returns-in_err-replace-clause-bad c = λ h.
    part_refused c.loop-left.row _ _ c.part_of.result.0.now c.part_of-in-Some.result.0.now _
    (ap (λ o. left_parts (option_copied o)) c.in-Some.is ∙ c.part_of.ensures.parts
    ∙ ap (λ o. c.part_of.result.0.now ∷ left_parts (option_copied o)) c.in-Some-behind.is
    ∙ ap (λ (ps : List (List ℕ)). c.part_of.result.0.now ∷ ps) c.part_of-in-Some.ensures.parts)
    (c.in_err-replace.ensures.bad (err_handed c.from_residual.result c.in_err-replace.field-0.0 _ c.from_residual.ensures.1 h)) c.loop-left.invariant
