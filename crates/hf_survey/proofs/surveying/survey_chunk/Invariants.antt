use Rattle.std.proofs.Common.{◌≡◌, ℕ, ◌+◌, ◌-◌, ◌≤◌, List, length, take}
use Rattle.hf_survey.specs.Surveys.{Passed, Stand}
use Rattle.hf_survey.proofs.surveying.survey_chunk.Given as goal

abbrev pub invariant-loop-next : goal.invariant-loop-next
invariant-loop-next l = record {
  low : l.at ≤ l.next;
  high : l.next ≤ l.end;
  stand : Stand l.head l.at l.initial.found → Stand l.head l.next l.found;
  passed : (bytes : List ℕ) → l.chunk ≡ take (length l.chunk) bytes → l.at + length bytes ≡ l.end → Passed l.head l.at l.next bytes l.initial.found l.found;
}

abbrev pub decreases-loop-next : goal.decreases-loop-next
decreases-loop-next l = l.end - l.next
