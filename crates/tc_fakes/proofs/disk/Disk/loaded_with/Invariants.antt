use Rattle.std.proofs.Common.{◌≡◌, ℕ, [], take, get_or}
use Rattle.tc_io.specs.Images.{now}
use Rattle.tc_fakes.specs.Honest.{Settled}
use Rattle.tc_fakes.specs.History.{calls_of}
use Rattle.tc_fakes.proofs.disk.Disk.loaded_with.Given as goal

abbrev pub invariant-loop-file : goal.invariant-loop-file
invariant-loop-file l = record {
  loads : (f : ℕ) → now (calls_of l.disk.history.items) f ≡ get_or (take l.file l.files) f [];
  only : Settled (calls_of l.disk.history.items);
}
