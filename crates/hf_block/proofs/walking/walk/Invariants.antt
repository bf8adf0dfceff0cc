use Rattle.std.proofs.Common.{◌≡◌, ◌-◌, ◌≤◌, [], length}
use Rattle.hf_head.specs.Heads.{wide}
use Rattle.hf_block.specs.Rows.{StandInRow}
use Rattle.hf_block.specs.Walks.{Walked, between}
use Rattle.tc_space.specs.Frames.{OnlyReads}
use Rattle.hf_block.proofs.walking.walk.Given as goal

abbrev pub invariant-loop-at : goal.invariant-loop-at
invariant-loop-at g l = record {
  reads : OnlyReads g.S.Space l.initial.space l.space;
  low : l.head.first ≤ l.at;
  high : l.at ≤ l.end;
  long : length l.chunk ≡ 16384;
  row : StandInRow l.unit l.head.first l.at l.blocks;
  walked : g.S.Space.tells → Walked (wide l.large) l.unit l.head.first l.at (between l.head.first l.end (g.S.Space.now l.initial.space l.file)) [] l.blocks;
}

abbrev pub decreases-loop-at : goal.decreases-loop-at
decreases-loop-at g l = l.end - l.at
