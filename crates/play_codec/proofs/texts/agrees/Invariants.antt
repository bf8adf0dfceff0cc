use Rattle.std.proofs.Common.{◌-◌, ◌≤◌, length, take}
use Rattle.ty_memc.specs.Taking.{IsTextSeen}
use Rattle.play_codec.proofs.texts.agrees.Given as goal

abbrev pub invariant-loop-n : goal.invariant-loop-n
invariant-loop-n l = record {
  inside : l.n ≤ length l.bytes;
  seen : IsTextSeen l.seen (take l.n l.bytes);
}

abbrev pub decreases-loop-n : goal.decreases-loop-n
decreases-loop-n l = length l.bytes - l.n
