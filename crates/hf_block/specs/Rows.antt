-- The blocks of a file as a list.
use Rattle.std.specs.Prelude.{◌≡◌, ◌↔◌, ℕ, ◌+◌, ◌%◌, ◌≤◌, true, Some, List, [], ◌∷◌, slice_get}
use Rattle.hf_block.specs.declared.block.BlockAt.{BlockAt}
use Rattle.hf_block.specs.Pieces.{IsSize}

-- the blocks stand one after the other from one place to another, each with a size that a block may have
abbrev pub StandInRow : ℕ → ℕ → ℕ → List BlockAt → Type 0
StandInRow unit at end [] = at ≡ end
StandInRow unit at end (b ∷ bs) = (b.place ≡ at) × IsSize unit b.size × StandInRow unit (at + b.size) end bs

-- blocks stand apart from one place to another, in ascending place, each where and as large as a block may be
abbrev pub StandApart : ℕ → ℕ → ℕ → List BlockAt → Type 0
StandApart unit at end [] = at ≤ end
StandApart unit at end (b ∷ bs) = (at ≤ b.place) × (b.place % unit ≡ 0) × IsSize unit b.size × StandApart unit (b.place + b.size) end bs

-- a free block of that size at that place is listed
abbrev pub IsListed : List BlockAt → ℕ → ℕ → Type 0
IsListed blocks place size = (k : ℕ) × (slice_get blocks k ≡ Some (record { place = place; size = size; free = true }))

-- two lists have the same free blocks
abbrev pub HaveSameFree : List BlockAt → List BlockAt → Type 0
HaveSameFree xs ys = (place size : ℕ) → IsListed xs place size ↔ IsListed ys place size
