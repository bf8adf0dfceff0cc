use Rattle.std.proofs.Common.{◌≡◌, ℕ, ◌+◌, ◌-◌, ◌<◌, ◌%◌, List, length, take, drop}
use Rattle.tc_realfs.specs.Paging.{Shows}
use Rattle.tc_realfs.proofs.pages.Pages.keep_all.Given as goal

abbrev pub invariant-loop-done : goal.invariant-loop-done
invariant-loop-done l = record {
  aligned : l.done < length l.bytes → (l.at + l.done) % 4096 ≡ 0;
  shows : (file : List ℕ) → l.bytes ≡ take (length l.bytes) (drop l.at file) → Shows l.initial.self file → Shows l.self file;
}

abbrev pub decreases-loop-done : goal.decreases-loop-done
decreases-loop-done l = length l.bytes - l.done
