use Rattle.std.proofs.Common.{◌≡◌}
use Rattle.tc_table.specs.Searching.{firsts_of}
use Rattle.tc_table.proofs.searching.bare_rows.Given as goal

abbrev pub invariant-loop-key : goal.invariant-loop-key
invariant-loop-key l = firsts_of l.rows ≡ l.yielded
