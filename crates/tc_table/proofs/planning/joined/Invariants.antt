use Rattle.std.proofs.Common.{◌≡◌, ◌++◌}
use Rattle.tc_table.proofs.planning.joined.Given as goal

abbrev pub invariant-loop-key : goal.invariant-loop-key
invariant-loop-key l = l.keys ≡ l.fn.first ++ l.yielded
