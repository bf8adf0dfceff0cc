-- The keys of records, block by block, and the bytes of keys and values.
use Rattle.std.specs.Prelude.{ℕ, ◌+◌, List, [], ◌∷◌, length, sum_by}
use Rattle.std.specs.FinMap.{entries}
use Rattle.tc_base.specs.Maps.{Map}
use Rattle.hf_block.specs.Pieces.{Piece, held, free}
use Rattle.tc_space.specs.declared.space.Space.{Ghosts}
use Rattle.hf_head.specs.declared.head.Head.{Head}
use Rattle.hf_chain.specs.Files.{IsOpenFile}
use Rattle.hf_tree.specs.Keys.{Key}
use Rattle.hf_tree.specs.Links.{HasBlocks}

abbrev pub keys_of : List Piece → List Key
keys_of [] = []
keys_of (held r ∷ ps) = r.key ∷ keys_of ps
keys_of (free size tail ∷ ps) = keys_of ps

-- the bytes of the keys and values of records
abbrev pub bytes_of : List Piece → ℕ
bytes_of [] = 0
bytes_of (held r ∷ ps) = length r.key + length r.value + bytes_of ps
bytes_of (free size tail ∷ ps) = bytes_of ps

-- and those of a map
abbrev pub bytes_in : Map → ℕ
bytes_in m = sum_by (λ e. length e.0 + length e.1) (entries m)

-- the space may be used, and blocks fill the file up to its head's size
pub record CanList {S : Type 0} (s : Ghosts S) (h : Head) (file : ℕ) (space : S) : Type 0 where
  pub ready : IsOpenFile s h file space
  pub filled : s.tells → (ps : List Piece) × HasBlocks h h.size ps (s.now space file)

-- it is so of whatever blocks fill it
abbrev pub OfBlocks : {S : Type 0} → Ghosts S → Head → ℕ → S → (List Piece → Type 0) → Type 0
OfBlocks s h file space P = s.tells → (ps : List Piece) → HasBlocks h h.size ps (s.now space file) → P ps
