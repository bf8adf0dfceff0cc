use Rattle.std.proofs.Common.{ℕ, ◌-◌, ◌≤◌, List, length, take}
use Rattle.tc_base.specs.Files.{wrote}
use Rattle.tc_realfs.specs.Paging.{Shows}
use Rattle.tc_realfs.proofs.pages.Pages.put.Given as goal

abbrev pub invariant-loop-done : goal.invariant-loop-done
invariant-loop-done l = record {
  le : l.done ≤ length l.bytes;
  shows : (file : List ℕ) → l.at ≤ length file → Shows l.initial.self file → Shows l.self (wrote l.at (take l.done l.bytes) file);
}

abbrev pub decreases-loop-done : goal.decreases-loop-done
decreases-loop-done l = length l.bytes - l.done
