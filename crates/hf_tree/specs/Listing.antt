-- The blocks of a file, listed.
use Rattle.std.specs.Prelude.{◌≡◌, ℕ, List}
use Rattle.hf_head.specs.declared.head.Head.{Head}
use Rattle.hf_block.specs.declared.block.BlockAt.{BlockAt}
use Rattle.hf_block.specs.Pieces.{Piece, placed}
use Rattle.hf_tree.specs.Links.{HasBlocks}

-- the blocks of a file, which were listed
pub record AreListed (h : Head) (ps : List Piece) (bytes : List ℕ) (blocks : List BlockAt) : Type 0 where
  pub has : HasBlocks h h.size ps bytes
  pub listed : blocks ≡ placed h.first ps

pub record WereListed (h : Head) (bytes : List ℕ) (blocks : List BlockAt) : Type 0 where
  pub pieces : List Piece
  pub is : AreListed h pieces bytes blocks
