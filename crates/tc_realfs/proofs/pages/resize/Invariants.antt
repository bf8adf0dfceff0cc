use Rattle.std.proofs.Common.{◌≤◌, ◌-◌, length}
use Rattle.tc_realfs.proofs.pages.resize.Given as goal

abbrev pub invariant-loop-room : goal.invariant-loop-room
invariant-loop-room l = length l.room.items ≤ l.count

abbrev pub decreases-loop-room : goal.decreases-loop-room
decreases-loop-room l = l.count - length l.room.items
