-- What a pass over the blocks of a file finds.
use Rattle.std.specs.Prelude.{◌≡◌, ℕ, ◌+◌, ◌-◌, ◌%◌, ◌<◌, ◌≤◌, true, List, [], ◌∷◌, ◌++◌, length, take, drop}
use Rattle.hf_head.specs.declared.head.Head.{Head}
use Rattle.hf_head.specs.Heads.{unit}
use Rattle.hf_block.specs.declared.block.Block.{Block}
use Rattle.hf_block.specs.declared.block.BlockAt.{BlockAt}
use Rattle.hf_block.specs.Pieces.{Piece, held, free, AllWhole, AllHaveWidth, IsFilled, IsSize, size_of, spell_all}
use Rattle.hf_block.specs.Rows.{StandApart}
use Rattle.hf_block.specs.Walks.{HasNext, between}
use Rattle.hf_tree.specs.Links.{width}
use Rattle.hf_chain.specs.declared.heads.RecHead.{RecHead}
use Rattle.hf_survey.specs.declared.surveying.Survey.{Survey}
use Rattle.hf_survey.specs.Facts.{AreFacts, facts_of}

-- the free ones among blocks, where the first stands at this place
abbrev pub free_blocks : ℕ → List Piece → List BlockAt
free_blocks at [] = []
free_blocks at (held r ∷ ps) = free_blocks (at + size_of (held r)) ps
free_blocks at (free size tail ∷ ps) = record { place = at; size = size_of (free size tail); free = true } ∷ free_blocks (at + size_of (free size tail)) ps

-- the facts and the free blocks of a file with these blocks
pub record IsSurvey (h : Head) (ps : List Piece) (bytes : List ℕ) (s : Survey) : Type 0 where
  pub facts : AreFacts h ps bytes s.facts
  pub frees : s.frees ≡ free_blocks h.first ps

pub record WasSurveyed (h : Head) (bytes : List ℕ) (s : Survey) : Type 0 where
  pub pieces : List Piece
  pub is : IsSurvey h pieces bytes s

-- ---- block by block

-- the bytes from one place to a next are whole blocks, which were added to what was found; and if whole blocks fill all the bytes from the first
-- place on, they do so from the next
pub record Passed (h : Head) (at next : ℕ) (bytes : List ℕ) (old new : Survey) : Type 0 where
  pub pieces : List Piece
  pub whole : AllWhole (unit h) pieces
  pub widths : AllHaveWidth (width h) pieces
  pub is : take (next - at) bytes ≡ spell_all pieces
  pub facts : new.facts ≡ old.facts ++ facts_of h at pieces
  pub frees : new.frees ≡ old.frees ++ free_blocks at pieces
  pub on : at ≤ next
  pub within : next - at ≤ length bytes
  pub rest : (ps : List Piece) → IsFilled (width h) (unit h) bytes ps → (qs : List Piece) × IsFilled (width h) (unit h) (drop (next - at) bytes) qs

-- the free blocks that were found up to a place, where a block may stand
pub record Stand (h : Head) (at : ℕ) (s : Survey) : Type 0 where
  pub aligned : at % unit h ≡ 0
  pub apart : StandApart (unit h) h.first at s.frees

-- a block whose first bytes these are was added
pub record Added (h : Head) (place size : ℕ) (b : Block) (front : List ℕ) (old new : Survey) : Type 0 where
  pub stand : IsSize (unit h) size → Stand h place old → Stand h (place + size) new
  pub passed : (bytes : List ℕ) → front ≡ take (length front) bytes → HasNext (width h) (unit h) size b bytes → size ≤ length bytes → Passed h place (place + size) bytes old new

-- blocks were added, one at least, in a file that may be told
pub record WentOn (tells : Type 0) (h : Head) (at next : ℕ) (bytes : List ℕ) (old new : Survey) : Type 0 where
  pub on : at < next
  pub within : next ≤ h.size
  pub stand : Stand h at old → Stand h next new
  pub passed : tells → Passed h at next (between at h.size bytes) old new

-- the key behind a record's head, which lies among the record's first bytes
abbrev pub IsKeyIn : RecHead → List ℕ → List ℕ → Type 0
IsKeyIn rec front key = (rec.head + rec.key ≤ length front) × (key ≡ take rec.key (drop rec.head front))

-- a next place, up to which blocks were added
abbrev pub StoodOn : Head → ℕ → Survey → Survey → ℕ → Type 0
StoodOn h at old new next = (at ≤ next) × (next ≤ h.size) × (Stand h at old → Stand h next new)

-- the head's bytes from a place on
abbrev pub rest_of : Head → ℕ → List ℕ → List ℕ
rest_of h at bytes = between at h.size bytes
