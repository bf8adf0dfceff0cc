use Rattle.std.proofs.Common.{◌≡◌}
use Rattle.tc_hashdb.specs.Changing.{last_values}
use Rattle.tc_hashdb.proofs.many.last_of_each.Given as goal

abbrev pub invariant-loop-pair : goal.invariant-loop-pair
invariant-loop-pair l = l.last ≡ last_values l.yielded
