use Rattle.std.proofs.Common.{◌≡◌, take}
use Rattle.tc_fakes.specs.Copied.{copy_calls}
use Rattle.tc_fakes.specs.History.{calls_of}
use Rattle.tc_fakes.proofs.copied.Copied.disk.Given as goal

abbrev pub invariant-loop-one : goal.invariant-loop-one
invariant-loop-one l = record {
  calls : calls_of l.disk.history.items ≡ copy_calls (take l.one-index l.one-items) l.label;
}
