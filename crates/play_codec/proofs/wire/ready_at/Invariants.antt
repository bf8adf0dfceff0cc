use Rattle.std.proofs.Common.{◌-◌, ◌≤◌, length, take}
use Rattle.ty_look.specs.Seen.{IsSeen}
use Rattle.play_codec.proofs.wire.ready_at.Given as goal

abbrev pub invariant-loop-n : goal.invariant-loop-n
invariant-loop-n l = record {
  inside : l.n ≤ length l.bytes;
  seen : IsSeen l.seen (take l.n l.bytes);
}

abbrev pub decreases-loop-n : goal.decreases-loop-n
decreases-loop-n l = length l.bytes - l.n
