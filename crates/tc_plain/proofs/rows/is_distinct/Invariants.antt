use Rattle.std.proofs.Common.{◌≡◌, length}
use Rattle.tc_model.specs.Rows.{is_distinct}
use Rattle.tc_plain.proofs.rows.is_distinct.Given as goal

abbrev pub invariant-loop-left : goal.invariant-loop-left
invariant-loop-left l = is_distinct l.pairs ≡ is_distinct l.left

abbrev pub decreases-loop-left : goal.decreases-loop-left
decreases-loop-left l = length l.left
