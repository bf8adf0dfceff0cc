use Rattle.std.proofs.Common.{◌+◌, ◌*◌, ◌≤◌, ℕ, List}
use Rattle.tc_space.specs.Frames.{OnlyReads}
use Rattle.hf_block.specs.Pieces.{Piece}
use Rattle.hf_tree.specs.Trees.{Tree}
use Rattle.hf_tree.specs.Views.{Hangs}
use Rattle.hf_tree.specs.Links.{HasBlocks, view_of}
use Rattle.hf_chain.specs.Costs.{Paid}
use Rattle.hf_chain.proofs.Settings.{Walk}
use Rattle.hf_chain.proofs.hanging.rightmost.Given as goal

abbrev pub invariant-loop-depth : goal.invariant-loop-depth
invariant-loop-depth g l = record {
  reads : OnlyReads g.S.Space l.fn.space l.space;
  walk : g.S.Space.tells → (end : ℕ) (ps : List Piece) (t : Tree) → HasBlocks l.head end ps (g.S.Space.now l.fn.space l.file) → Hangs (view_of l.head ps (g.S.Space.now l.fn.space l.file)) l.at t → Walk l.head end ps (g.S.Space.now l.fn.space l.file) t l.at l.end l.depth;
  count : l.steps ≤ l.fn.steps + l.depth;
  read : g.S.Space.bytes_read l.space ≤ g.S.Space.bytes_read l.fn.space + l.depth * 40;
  paid : Paid 40 l.fn.steps l.steps (g.S.Space.bytes_read l.fn.space) (g.S.Space.bytes_read l.space);
}
