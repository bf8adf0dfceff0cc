use Rattle.std.proofs.Common.{◌≡◌}
use Rattle.bt_slots.specs.Lying.{behind_values}
use Rattle.bt_slots.proofs.Spans.{EndsWith}
use Rattle.bt_slots.proofs.marking.offset_on.Given as goal

abbrev pub invariant-loop-i : goal.invariant-loop-i
invariant-loop-i l = record { at : l.rest ≡ behind_values l.i l.further; ends : EndsWith l.further l.rest }
