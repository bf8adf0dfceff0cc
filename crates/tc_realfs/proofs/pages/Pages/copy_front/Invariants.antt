use Rattle.std.proofs.Common.{◌≡◌, ℕ, ◌-◌, ◌≤◌, List, length, take, drop}
use Rattle.tc_realfs.specs.Paging.{Shows}
use Rattle.tc_realfs.proofs.pages.Pages.copy_front.Given as goal

abbrev pub invariant-loop-done : goal.invariant-loop-done
invariant-loop-done l = record {
  le : l.done ≤ length l.into;
  long : length l.into ≡ length l.initial.into;
  bytes : (file : List ℕ) → Shows l.self file → take l.done l.into ≡ take l.done (drop l.at file);
}

abbrev pub decreases-loop-done : goal.decreases-loop-done
decreases-loop-done l = length l.into - l.done
