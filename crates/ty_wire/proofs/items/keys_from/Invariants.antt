use Rattle.std.proofs.Common.{◌≡◌}
use Rattle.ty_wire.proofs.items.keys_from.Given as goal

abbrev pub invariant-loop-text : goal.invariant-loop-text
invariant-loop-text l = l.keys ≡ l.yielded
