use Rattle.std.specs.List.{All}
use Rattle.bt_slots.specs.Marks.{IsMark}
use Rattle.bt_cache.proofs.marking.mark_each.Given as goal

abbrev pub invariant-loop-i : goal.invariant-loop-i
invariant-loop-i l = record { last : IsMark l.leaf l.last; each : All (IsMark l.leaf) l.each.items }
