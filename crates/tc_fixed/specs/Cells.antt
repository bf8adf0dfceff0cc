-- The cells of a fixed-length file: a size field each, and so many bytes as a value may have.
use Rattle.std.specs.Prelude.{◌≡◌, ℕ, ◌+◌, ◌-◌, ◌*◌, ◌≤◌, nat_le, if◌then◌else◌, List, [], ◌∷◌, ◌++◌, length, take, replicate, slice_index, Option, Some, None, IsSome}
use Rattle.std.specs.FinMap.{get}
use Rattle.tc_base.specs.Endian.{le_number, le_bytes, field}
use Rattle.tc_base.specs.Files.{wrote}
use Rattle.hf_head.specs.FixedHeads.{cell}
use Rattle.tc_model.specs.Arrays.{Array}

-- the bytes of the size field
abbrev pub size_len : ℕ → ℕ
size_len width = if nat_le width 255 then 1 else (if nat_le width 65535 then 2 else 4)

-- where the cell of an id stands
abbrev pub place : ℕ → ℕ → ℕ
place width id = 256 + (id - 1) * cell width

-- where the cells up to an id end
abbrev pub end_of : ℕ → ℕ → ℕ
end_of width id = 256 + cell width * id

abbrev pub size_in : ℕ → List ℕ → ℕ
size_in width c = le_number (take (size_len width) c)

-- the byte behind the size field
abbrev pub mark_in : ℕ → List ℕ → ℕ
mark_in width c = slice_index c (size_len width)

-- the bytes of a cell have this value; that of no bytes is marked by a 1
pub record HasValue (width : ℕ) (v c : List ℕ) : Type 0 where
  pub size : size_in width c ≡ length v
  pub fits : length v ≤ width
  pub marked : length v ≡ 0 → mark_in width c ≡ 1
  pub bytes : field (size_len width) (length v) c ≡ v

-- the bytes of a cell have this value, or none
abbrev pub IsCell : ℕ → Option (List ℕ) → List ℕ → Type 0
IsCell width None c = (size_in width c ≡ 0) × (mark_in width c ≡ 0)
IsCell width (Some v) c = HasValue width v c

-- the bytes of the cell of an id
abbrev pub cell_at : ℕ → ℕ → List ℕ → List ℕ
cell_at width id bytes = field (place width id) (cell width) bytes

-- the cells up to an id have the values of a map
abbrev pub HasCellsOf : ℕ → ℕ → Array → List ℕ → Type 0
HasCellsOf width last m bytes = (id : ℕ) → 1 ≤ id → id ≤ last → IsCell width (get m id) (cell_at width id bytes)

-- and the map holds no other id
pub record IsMapOf (width last : ℕ) (m : Array) (bytes : List ℕ) : Type 0 where
  pub cells : HasCellsOf width last m bytes
  pub within : (id : ℕ) → IsSome (get m id) → (1 ≤ id) × (id ≤ last)

-- and all these cells are there
pub record Fills (width last : ℕ) (m : Array) (bytes : List ℕ) : Type 0 where
  pub long : end_of width last ≤ length bytes
  pub map : IsMapOf width last m bytes

-- ---- what is written

-- a value, or the mark of one without bytes
abbrev pub marked : List ℕ → List ℕ
marked [] = 1 ∷ []
marked (b ∷ bytes) = b ∷ bytes

-- zeros behind bytes, up to a length
abbrev pub padded : ℕ → List ℕ → List ℕ
padded long bytes = bytes ++ replicate (long - length bytes) 0

abbrev pub spelled : ℕ → List ℕ → List ℕ
spelled width v = le_bytes (size_len width) (length v) ++ padded width (marked v)

-- the cell of an id without a value
abbrev pub blank : ℕ → List ℕ
blank width = replicate (cell width) 0

-- the bytes with those of a cell written over them, and zeros over the cells between the last one and it
abbrev pub with_cell : ℕ → ℕ → ℕ → List ℕ → List ℕ → List ℕ
with_cell width last id bytes old = wrote (place width id) bytes (wrote (place width (last + 1)) (replicate (place width id - place width (last + 1)) 0) old)
