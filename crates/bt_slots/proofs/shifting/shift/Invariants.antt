use Rattle.std.proofs.Common.{◌≡◌, ◌++◌, map, take, drop}
use Rattle.bt_slots.specs.Changes.{shifted}
use Rattle.bt_slots.proofs.shifting.shift.Given as goal

abbrev pub invariant-loop-start : goal.invariant-loop-start
invariant-loop-start l = l.start-items ≡ map (shifted l.from l.to) (take l.start-index l.initial.start-items) ++ drop l.start-index l.initial.start-items
