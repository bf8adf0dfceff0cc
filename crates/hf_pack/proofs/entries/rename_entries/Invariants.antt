use Rattle.std.proofs.Common.{◌-◌, ◌≤◌}
use Rattle.tc_space.specs.Frames.{Keeps, Others}
use Rattle.tc_space.specs.Stores.{Only}
use Rattle.hf_pack.specs.Entries.{PushedNew}
use Rattle.hf_pack.proofs.entries.rename_entries.Given as goal

abbrev pub invariant-loop-done : goal.invariant-loop-done
invariant-loop-done g l = record {
  low : l.done ≤ l.head.buckets;
  is_sound : g.S.Space.sound l.space;
  others : Others g.S.Space (Only l.file) l.fn.space l.space;
  keeps : Keeps g.S.Space l.fn.space l.space;
  pushed : PushedNew g.S.Space l.head l.targets l.file 256 l.done l.fn.stream l.stream l.fn.space l.space;
}

abbrev pub decreases-loop-done : goal.decreases-loop-done
decreases-loop-done g l = l.head.buckets - l.done
