use Rattle.std.proofs.Common.{◌≡◌, ℕ, ◌+◌, ◌-◌, ◌≤◌, List, length, take}
use Rattle.hf_head.specs.Heads.{wide}
use Rattle.hf_block.specs.Rows.{StandInRow}
use Rattle.hf_block.specs.Walks.{Walked}
use Rattle.hf_block.proofs.walking.walk_chunk.Given as goal

abbrev pub invariant-loop-next : goal.invariant-loop-next
invariant-loop-next l = record {
  low : l.at ≤ l.next;
  high : l.next ≤ l.end;
  row : (first : ℕ) → StandInRow l.unit first l.at l.initial.list → StandInRow l.unit first l.next l.list;
  walked : (bytes : List ℕ) → l.chunk ≡ take (length l.chunk) bytes → l.at + length bytes ≡ l.end → Walked (wide l.large) l.unit l.at l.next bytes l.initial.list l.list;
}

abbrev pub decreases-loop-next : goal.decreases-loop-next
decreases-loop-next l = l.end - l.next
