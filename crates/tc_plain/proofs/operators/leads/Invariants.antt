use Rattle.std.proofs.Common.{◌≡◌, length}
use Rattle.std.specs.List.{starts_with}
use Rattle.tc_base.specs.Texts.{is_text}
use Rattle.tc_plain.proofs.operators.leads.Given as goal

abbrev pub invariant-loop-left : goal.invariant-loop-left
invariant-loop-left l = starts_with is_text l.others l.texts ≡ starts_with is_text l.rest l.left

abbrev pub decreases-loop-left : goal.decreases-loop-left
decreases-loop-left l = length l.left
