use Rattle.std.proofs.Common.{take}
use Rattle.tc_io.specs.Images.{reads}
use Rattle.tc_fakes.specs.Chosen.{chosen}
use Rattle.tc_fakes.specs.History.{calls_of}
use Rattle.tc_fakes.specs.Honest.{Holds}
use Rattle.tc_fakes.proofs.disk.Disk.images.Given as goal

abbrev pub invariant-loop-call : goal.invariant-loop-call
invariant-loop-call l = record {
  now : Holds l.reads reads (calls_of (take l.call-index l.call-items));
  left : Holds l.images (chosen l.choice) (calls_of (take l.call-index l.call-items));
}
