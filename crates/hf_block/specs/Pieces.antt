-- Blocks with all their bytes, one after the other.
use Rattle.std.specs.Prelude.{◌≡◌, ℕ, ◌+◌, ◌%◌, ◌^◌, ◌<◌, Bool, true, false, List, [], ◌∷◌, ◌++◌, length}
use Rattle.hf_block.specs.declared.block.BlockAt.{BlockAt}
use Rattle.hf_block.specs.Heads.{rec_head, free_head}

-- with the bytes of each of its chains
pub record Record : Type 0 where
  pub wide : ℕ
  pub hash : ℕ
  pub left : ℕ
  pub right : ℕ
  pub key : List ℕ
  pub value : List ℕ
  pub pad : List ℕ

-- a record, or a free block with its size and the bytes behind its head
pub data Piece : Type 0 where
  held : (r : Record) → Piece
  free : (size : ℕ) (tail : List ℕ) → Piece

unfoldable pub spell : Piece → List ℕ
spell (held r) = rec_head r.wide r.hash r.left r.right (length r.pad) (length r.key) (length r.value) ++ (r.key ++ (r.value ++ r.pad))
spell (free size tail) = free_head size ++ tail

abbrev pub size_of : Piece → ℕ
size_of p = length (spell p)

abbrev pub is_free : Piece → Bool
is_free (held r) = false
is_free (free size tail) = true

-- a size that a block may have: a multiple of the unit, not 0 and below 2 ^ 32
pub record IsSize (unit n : ℕ) : Type 0 where
  pub some : 0 < n
  pub aligned : n % unit ≡ 0
  pub below : n < 2 ^ 32

-- each number fits its field, and a free block has the size that its head says
abbrev pub NumbersFit : Piece → Type 0
NumbersFit (held r) = (r.hash < 256) × (r.left < 256 ^ r.wide) × (r.right < 256 ^ r.wide) × (length r.pad < 2 ^ 16)
NumbersFit (free size tail) = size_of (free size tail) ≡ size

pub record IsWhole (unit : ℕ) (p : Piece) : Type 0 where
  pub fits : NumbersFit p
  pub size : IsSize unit (size_of p)

abbrev pub AllWhole : ℕ → List Piece → Type 0
AllWhole unit [] = Unit {0}
AllWhole unit (p ∷ ps) = IsWhole unit p × AllWhole unit ps

-- its chains have that many bytes
abbrev pub HasWidth : ℕ → Piece → Type 0
HasWidth wide (held r) = r.wide ≡ wide
HasWidth wide (free size tail) = Unit {0}

abbrev pub AllHaveWidth : ℕ → List Piece → Type 0
AllHaveWidth wide [] = Unit {0}
AllHaveWidth wide (p ∷ ps) = HasWidth wide p × AllHaveWidth wide ps

abbrev pub spell_all : List Piece → List ℕ
spell_all [] = []
spell_all (p ∷ ps) = spell p ++ spell_all ps

-- whole blocks stand in the bytes, one after the other, and nothing else
pub record AreBlocks (unit : ℕ) (bytes : List ℕ) (ps : List Piece) : Type 0 where
  pub whole : AllWhole unit ps
  pub is : bytes ≡ spell_all ps

-- whole blocks with chains of that many bytes stand in the bytes, one after the other, and nothing else
pub record IsFilled (wide unit : ℕ) (bytes : List ℕ) (ps : List Piece) : Type 0 where
  pub whole : AllWhole unit ps
  pub widths : AllHaveWidth wide ps
  pub is : bytes ≡ spell_all ps

-- the blocks by place, size and whether they are free, where the first stands at this place
abbrev pub placed : ℕ → List Piece → List BlockAt
placed at [] = []
placed at (p ∷ ps) = record { place = at; size = size_of p; free = is_free p } ∷ placed (at + size_of p) ps
