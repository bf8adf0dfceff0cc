use Rattle.std.proofs.Common.{◌∙◌, ap, ℕ, List}
use Rattle.bt_slots.specs.Reads.{cut}
use Rattle.bt_slots.proofs.Changes.{next_parts}
use Rattle.bt_slots.proofs.parts.without_first.Goals as goal

pub returns : goal.returns
returns c = λ i fits more p.
    next_parts i _ _ c.args.parts.further.now c.cut.result.0.now c.cut.result.1.now _ _ fits more p
    (c.cut.ensures.0 ∙ ap (λ (x : ℕ × List ℕ). (cut x).0) c.number-size.ensures)
    (c.cut.ensures.1 ∙ ap (λ (x : ℕ × List ℕ). (cut x).1) c.number-size.ensures)
    c.saturating_sub.ensures
