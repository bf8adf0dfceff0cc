use Rattle.std.specs.Ordering.{nat_cmp}
use Rattle.std.specs.Cmp.{nat_cmp_total}
use Rattle.std.specs.FinMap.{nat_cmp-IsAntisymmetric}
use Rattle.tc_plain.proofs.Entries.{Covers}
use Rattle.tc_plain.proofs.maps.IdMapCopied.copied.Given as goal

abbrev pub invariant-loop-id : goal.invariant-loop-id
invariant-loop-id l = Covers nat_cmp nat_cmp_total nat_cmp-IsAntisymmetric l.initial.id-iterator l.id-iterator l.copy
