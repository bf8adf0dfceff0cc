use Rattle.std.proofs.Common.{List}
use Rattle.tc_space.specs.Frames.{OnlyReads}
use Rattle.hf_block.specs.Pieces.{Piece}
use Rattle.tc_reach.specs.Windows.{Shows}
use Rattle.hf_tree.specs.Listing.{AreListed}
use Rattle.tc_hash.proofs.BytesRead.{BytesSo}
use Rattle.tc_hash.proofs.totals.read_bytes.Given as goal

abbrev pub invariant-loop-i : goal.invariant-loop-i
invariant-loop-i g l = record {
  reads : OnlyReads g.S.Space l.fn.space l.space;
  shows : g.S.Space.tells → Shows l.window (g.S.Space.now l.fn.space l.file);
  so : g.S.Space.tells → (ps : List Piece) → AreListed l.head ps (g.S.Space.now l.fn.space l.file) l.blocks → BytesSo l.head ps l.i l.total;
}
