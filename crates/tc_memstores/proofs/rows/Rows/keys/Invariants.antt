use Rattle.std.proofs.Common.{◌≡◌, ◌++◌}
use Rattle.tc_memstores.proofs.rows.Rows.keys.Given as goal

abbrev pub invariant-loop-key : goal.invariant-loop-key
invariant-loop-key l = l.found ++ l.key-iterator ≡ l.initial.key-iterator
