use Rattle.std.proofs.Common.{List}
use Rattle.tc_space.specs.Frames.{Keeps, Others}
use Rattle.tc_space.specs.Stores.{Only}
use Rattle.hf_block.specs.Pieces.{Piece}
use Rattle.hf_tree.specs.Listing.{AreListed}
use Rattle.hf_pack.specs.Moving.{renamed_in}
use Rattle.hf_pack.proofs.Records.{MovedSo}
use Rattle.hf_pack.proofs.moving.move_records.Given as goal

abbrev pub invariant-loop-i : goal.invariant-loop-i
invariant-loop-i g l = record {
  is_sound : g.S.Space.sound l.space;
  others : Others g.S.Space (Only l.file) l.fn.space l.space;
  keeps : Keeps g.S.Space l.fn.space l.space;
  so : g.S.Space.tells → (ps : List Piece) → AreListed l.head ps (g.S.Space.now l.fn.space l.file) l.blocks → MovedSo (renamed_in l.head l.targets) ps l.i l.fn.stream l.stream (g.S.Space.now l.fn.space l.file) (g.S.Space.now l.space l.file);
}
