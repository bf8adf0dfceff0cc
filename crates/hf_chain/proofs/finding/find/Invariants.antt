use Rattle.std.proofs.Common.{◌+◌, ◌*◌, ◌≤◌, ℕ, List, length}
use Rattle.tc_space.specs.Frames.{OnlyReads}
use Rattle.hf_block.specs.Pieces.{Piece}
use Rattle.hf_tree.specs.Keys.{bucket_of}
use Rattle.hf_tree.specs.Trees.{Tree}
use Rattle.hf_chain.specs.Chains.{InTree}
use Rattle.hf_chain.specs.Costs.{step_most, Paid}
use Rattle.hf_chain.proofs.Descents.{Spot}
use Rattle.hf_chain.proofs.finding.find.Given as goal

abbrev pub invariant-loop-depth : goal.invariant-loop-depth
invariant-loop-depth g l = record {
  reads : OnlyReads g.S.Space l.fn.space l.space;
  spot : g.S.Space.tells → (end : ℕ) (ps : List Piece) (t : Tree) → InTree l.head end ps (g.S.Space.now l.fn.space l.file) (bucket_of l.head.buckets l.key) t → Spot l.head end ps (g.S.Space.now l.fn.space l.file) (bucket_of l.head.buckets l.key) t l.key l.from l.at l.depth;
  count : l.steps ≤ l.fn.steps + (1 + l.depth);
  read : g.S.Space.bytes_read l.space ≤ g.S.Space.bytes_read l.fn.space + (l.depth + 1) * step_most (length l.key);
  paid : Paid (step_most (length l.key)) l.fn.steps l.steps (g.S.Space.bytes_read l.fn.space) (g.S.Space.bytes_read l.space);
}
