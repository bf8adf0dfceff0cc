-- The pool section of a file.
use Rattle.std.specs.Prelude.{◌≡◌, ℕ, ◌+◌, ◌*◌, ◌-◌, ◌<◌, ◌≤◌, ◌^◌, List, ◌∷◌, ◌++◌, length, drop, replicate}
use Rattle.tc_base.specs.Vnum.{vnum}
use Rattle.hf_head.specs.declared.head.Head.{Head}
use Rattle.hf_head.specs.Heads.{sections}
use Rattle.hf_block.specs.Walks.{between}
use Rattle.hf_tree.specs.Links.{width}
use Rattle.hf_layout.specs.Frees.{Frees, IsThere}
use Rattle.hf_pool.specs.Sections.{InOrder, section_bytes}
use Rattle.hf_tree.specs.Standing.{Lists}

-- its place, and how many bytes it has
abbrev pub section_at : Head → ℕ
section_at h = 256 + width h * h.buckets

abbrev pub section_len : Head → ℕ
section_len h = sections h - section_at h

-- its bytes
abbrev pub section_of : Head → List ℕ → List ℕ
section_of h bytes = between (256 + width h * h.buckets) (sections h) bytes

-- these are the bytes of a section of the free blocks
abbrev pub IsSectionOf : Head → ℕ → Frees → List ℕ → Type 0
IsSectionOf h unit frees bytes = (blocks : List (ℕ × ℕ)) × InOrder frees blocks × (bytes ≡ section_bytes unit (section_len h) blocks)

-- bytes with zeros behind them, so many in all
abbrev pub filled : ℕ → List ℕ → List ℕ
filled long bytes = bytes ++ replicate (long - length bytes) 0

-- the section lists free blocks
abbrev pub IsListOf : ℕ → Frees → List ℕ → Type 0
IsListOf u frees section = (blocks : List (ℕ × ℕ)) × Lists u frees 0 section blocks

-- a pair at the front names a free block: the number that its place is, in units, and the bytes of the pair. No other pair stands there
pub record IsPair (u : ℕ) (frees : Frees) (before : ℕ) (bytes : List ℕ) (place len : ℕ) : Type 0 where
  pub difference : ℕ
  pub size : ℕ
  pub some : 0 < difference
  pub is : bytes ≡ vnum difference ++ (vnum size ++ drop len bytes)
  pub there : IsThere frees (u * place) (u * size)
  pub place_is : place ≡ before + difference
  pub long : 0 < len
  pub within : len ≤ length bytes
  pub only : (b : ℕ × ℕ) (rest : List ℕ) → bytes ≡ vnum b.0 ++ (vnum b.1 ++ rest) → b.0 < 2 ^ 64 → b.1 < 2 ^ 64 → (b.0 ≡ difference) × (b.1 ≡ size) × (rest ≡ drop len bytes)

-- no pair at the front names a free block
abbrev pub IsNoPair : ℕ → Frees → ℕ → List ℕ → Type 0
IsNoPair u frees before bytes = (b : ℕ × ℕ) (rest : List ℕ) → 0 < b.0 → bytes ≡ vnum b.0 ++ (vnum b.1 ++ rest) → IsThere frees (u * (before + b.0)) (u * b.1) → ⊥

-- two zero bytes
abbrev pub IsEnd : List ℕ → Type 0
IsEnd bytes = (rest : List ℕ) × (bytes ≡ 0 ∷ 0 ∷ rest)
