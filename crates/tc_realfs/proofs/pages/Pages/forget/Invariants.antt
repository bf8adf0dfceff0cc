use Rattle.std.proofs.Common.{ℕ, ◌<◌, ◌≤◌, List}
use Rattle.tc_realfs.specs.Paging.{Lacks, Shows}
use Rattle.tc_realfs.proofs.pages.Pages.forget.Given as goal

abbrev pub invariant-loop-number : goal.invariant-loop-number
invariant-loop-number l = record {
  shows : (file : List ℕ) → Shows l.initial.self file → Shows l.self file;
  gone : (n : ℕ) → l.first ≤ n → n < l.number → Lacks n l.self;
}
