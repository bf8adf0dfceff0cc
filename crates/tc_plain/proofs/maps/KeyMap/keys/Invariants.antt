use Rattle.std.proofs.Common.{◌≡◌, ◌++◌}
use Rattle.tc_plain.proofs.maps.KeyMap.keys.Given as goal

abbrev pub invariant-loop-key : goal.invariant-loop-key
invariant-loop-key g l = l.keys ++ l.key-iterator ≡ l.initial.key-iterator
