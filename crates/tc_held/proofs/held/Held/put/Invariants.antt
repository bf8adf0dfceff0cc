use Rattle.std.proofs.Common.{◌-◌, ◌≤◌, length, take}
use Rattle.tc_held.specs.Held.{Takes}
use Rattle.tc_held.proofs.held.Held.put.Given as goal

abbrev pub invariant-loop-done : goal.invariant-loop-done
invariant-loop-done l = record {
  le : l.done ≤ length l.data;
  takes : Takes l.file l.at (take l.done l.data) l.initial.self l.self;
}

abbrev pub decreases-loop-done : goal.decreases-loop-done
decreases-loop-done l = length l.data - l.done
