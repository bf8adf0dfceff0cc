use Rattle.std.proofs.Common.{◌-◌, ◌≤◌}
use Rattle.tc_space.specs.Frames.{Keeps, Others}
use Rattle.tc_space.specs.Stores.{Only}
use Rattle.hf_pack.specs.Streams.{CopiedIn}
use Rattle.hf_pack.proofs.stream.Stream.copy.Given as goal

abbrev pub invariant-loop-done : goal.invariant-loop-done
invariant-loop-done g l = record {
  low : l.done ≤ l.count;
  is_sound : g.S.Space.sound l.space;
  others : Others g.S.Space (Only l.file) l.fn.space l.space;
  keeps : Keeps g.S.Space l.fn.space l.space;
  copied : CopiedIn g.S.Space l.file l.fn.self l.self l.fn.space l.space l.from l.done;
}

abbrev pub decreases-loop-done : goal.decreases-loop-done
decreases-loop-done g l = l.count - l.done
