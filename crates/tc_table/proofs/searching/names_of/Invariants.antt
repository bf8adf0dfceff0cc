use Rattle.std.proofs.Common.{◌≡◌, ◌++◌, drop}
use Rattle.tc_table.specs.Searching.{indexed}
use Rattle.tc_table.proofs.searching.names_of.Given as goal

abbrev pub invariant-loop-side : goal.invariant-loop-side
invariant-loop-side g l = l.names ++ indexed (drop l.side-index l.sides) ≡ indexed l.sides
