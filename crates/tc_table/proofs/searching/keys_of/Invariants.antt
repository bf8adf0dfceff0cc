use Rattle.std.proofs.Common.{◌≡◌}
use Rattle.tc_table.specs.Searching.{firsts_of}
use Rattle.tc_table.proofs.searching.keys_of.Given as goal

abbrev pub invariant-loop-row : goal.invariant-loop-row
invariant-loop-row l = l.keys ≡ firsts_of l.yielded
