use Rattle.std.proofs.Common.{◌≡◌}
use Rattle.bt_slots.specs.Lying.{behind_values}
use Rattle.bt_slots.proofs.bare.behind_further.Given as goal

abbrev pub invariant-loop-i : goal.invariant-loop-i
invariant-loop-i l = l.rest ≡ behind_values l.i l.bytes
