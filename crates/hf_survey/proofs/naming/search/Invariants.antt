use Rattle.std.proofs.Common.{◌≡◌, ◌-◌, ◌≤◌, ◌<◌, ℕ, length, Some}
use Rattle.std.specs.Prelude.{slice_get}
use Rattle.hf_survey.specs.declared.facts.Fact.{Fact}
use Rattle.hf_survey.specs.Facts.{Ascend}
use Rattle.hf_survey.proofs.naming.search.Given as goal

abbrev pub invariant-loop-low : goal.invariant-loop-low
invariant-loop-low l = record {
  order : l.low ≤ l.high;
  inside : l.high ≤ length l.facts;
  under : Ascend l.facts → (i : ℕ) (x : Fact) → slice_get l.facts i ≡ Some x → i < l.low → x.place < l.place;
  over : Ascend l.facts → (i : ℕ) (x : Fact) → slice_get l.facts i ≡ Some x → l.high ≤ i → l.place < x.place;
}

abbrev pub decreases-loop-low : goal.decreases-loop-low
decreases-loop-low l = l.high - l.low
