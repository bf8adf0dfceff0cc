-- What a walk over blocks has listed.
use Rattle.std.specs.Prelude.{◌≡◌, ◌⊎◌, ℕ, ◌+◌, ◌-◌, ◌*◌, ◌<◌, ◌≤◌, Bool, true, false, List, ◌++◌, length, take, drop, Result, Err}
use Rattle.tc_base.specs.declared.kind.Rule.{Rule}
use Rattle.hf_head.specs.declared.head.Head.{Head}
use Rattle.hf_head.specs.Heads.{is_large, wide as wide_of, unit as unit_of}
use Rattle.hf_block.specs.declared.walking.WalkErr.{WalkErr}
use Rattle.hf_block.specs.declared.walking.WalkErr.TheVariants.{Broken}
use Rattle.tc_base.specs.Vnum.{vnum}
use Rattle.tc_space.specs.Ranges.{IsDataFile}
use Rattle.tc_space.specs.declared.space.Space.{Ghosts}
use Rattle.hf_block.specs.declared.block.Block.{Block}
use Rattle.hf_block.specs.declared.block.Block.TheVariants.{Rec, Free}
use Rattle.hf_block.specs.declared.block.BlockAt.{BlockAt}
use Rattle.hf_block.specs.Rows.{StandInRow}
use Rattle.hf_block.specs.Pieces.{Piece, held, free, IsWhole, AllWhole, HasWidth, AllHaveWidth, IsFilled, spell, size_of, is_free, spell_all, placed}

-- the space may be used, and a data file has at least so many bytes where they are told
pub record HoldsUpTo {S : Type 0} (s : Ghosts S) (space : S) (file end : ℕ) : Type 0 where
  pub sound : s.sound space
  pub data_file : IsDataFile file
  pub inside : s.tells → end ≤ length (s.now space file)

-- so many bytes from a place on lie in front of an end, and either reach it or have room for the head of a block
pub record IsChunk (at len end : ℕ) : Type 0 where
  pub some : 0 < len
  pub within : at + len ≤ end
  pub enough : (at + len ≡ end) ⊎ (40 ≤ len)

-- blocks that stand in a row were added to a list, from one place to a next one in front of an end
pub record GoesOn (unit at next end : ℕ) (old new : List BlockAt) : Type 0 where
  pub on : at < next
  pub within : next ≤ end
  pub row : (first : ℕ) → StandInRow unit first at old → StandInRow unit first next new

-- from one place to the next the bytes are whole blocks, which were listed; and if whole blocks fill all the bytes from the
-- first place on, they do so from the next
pub record Walked (wide unit at next : ℕ) (bytes : List ℕ) (old new : List BlockAt) : Type 0 where
  pub pieces : List Piece
  pub whole : AllWhole unit pieces
  pub widths : AllHaveWidth wide pieces
  pub is : take (next - at) bytes ≡ spell_all pieces
  pub listed : new ≡ old ++ placed at pieces
  pub on : at ≤ next
  pub within : next - at ≤ length bytes
  pub rest : (ps : List Piece) → IsFilled wide unit bytes ps → (qs : List Piece) × IsFilled wide unit (drop (next - at) bytes) qs

-- the rule of whole blocks is named, since none fill the bytes, where they are told
pub record NoneFill (tells : Type 0) (wide unit : ℕ) (bytes : List ℕ) (rule : Rule) : Type 0 where
  pub rule_is : rule ≡ record { letter = 76; number = 3 }
  pub none : tells → (ps : List Piece) → IsFilled wide unit bytes ps → ⊥

-- whole blocks don't fill the bytes
abbrev pub NotFilled : ℕ → ℕ → List ℕ → Type 0
NotFilled wide unit bytes = (ps : List Piece) → IsFilled wide unit bytes ps → ⊥

-- whatever all the bytes are of which these are the front: so many,
abbrev pub OfAll : List ℕ → ℕ → (List ℕ → Type 0) → Type 0
OfAll front count P = (bytes : List ℕ) → front ≡ take (length front) bytes → length bytes ≡ count → P bytes

-- or as many as lie in front of an end
abbrev pub OfAllUpTo : List ℕ → ℕ → ℕ → (List ℕ → Type 0) → Type 0
OfAllUpTo front at end P = (bytes : List ℕ) → front ≡ take (length front) bytes → at + length bytes ≡ end → P bytes

-- the rule that is named
abbrev pub OnBroken : {T : Type 0} → Result T WalkErr → (Rule → Type 0) → Type 0
OnBroken result P = (rule : Rule) → result ≡ Err (Broken rule) → P rule

-- the bytes from one place up to another
abbrev pub between : ℕ → ℕ → List ℕ → List ℕ
between from to bytes = take (to - from) (drop from bytes)

-- the bytes of the block whose head this is
abbrev pub total : Block → ℕ
total (Rec hash left right pad key value head) = head + key + value + pad
total (Free size) = size

abbrev pub is_free_block : Block → Bool
is_free_block (Rec hash left right pad key value head) = false
is_free_block (Free size) = true

-- a whole block of n bytes stands at the front; and if whole blocks fill the bytes, they do so behind it
pub record IsNext (wide unit n : ℕ) (free : Bool) (bytes : List ℕ) : Type 0 where
  pub piece : Piece
  pub whole : IsWhole unit piece
  pub width : HasWidth wide piece
  pub is : take n bytes ≡ spell piece
  pub size : size_of piece ≡ n
  pub kind : is_free piece ≡ free
  pub rest : (ps : List Piece) → IsFilled wide unit bytes ps → (qs : List Piece) × IsFilled wide unit (drop n bytes) qs

-- the head of a block
abbrev pub block_of : Piece → Block
block_of (held r) = Rec r.hash r.left r.right (length r.pad) (length r.key) (length r.value) (4 + 2 * r.wide + length (vnum (length r.key)) + length (vnum (length r.value)))
block_of (free size tail) = Free size

-- a whole block of n bytes with this head stands at the front
pub record HasNext (wide unit n : ℕ) (b : Block) (bytes : List ℕ) : Type 0 where
  pub next : IsNext wide unit n (is_free_block b) bytes
  pub head : b ≡ block_of next.piece

-- whole blocks fill a file from its first block to its file size, and these are they
abbrev pub HasWalked : Head → List ℕ → List BlockAt → Type 0
HasWalked h bytes blocks = (ps : List Piece) × IsFilled (wide_of (is_large h)) (unit_of h) (between h.first h.size bytes) ps × (blocks ≡ placed h.first ps)

-- the rule of whole blocks is named, since none fill a file from a place to its file size
abbrev pub LacksBlocks : Type 0 → Head → ℕ → List ℕ → Rule → Type 0
LacksBlocks tells h from bytes rule = NoneFill tells (wide_of (is_large h)) (unit_of h) (between from h.size bytes) rule
