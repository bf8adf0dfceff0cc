-- The rules of a fixed-length file, and what one stands for in which they hold.
use Rattle.std.specs.Prelude.{◌≡◌, ℕ, ◌≤◌, List, length, take, Option}
use Rattle.std.specs.FinMap.{len}
use Rattle.hf_head.specs.declared.fixed.FixedHead.{FixedHead}
use Rattle.hf_head.specs.FixedHeads.{SpellsFixed, HasFixedNumbers, max_id}
use Rattle.tc_model.specs.Arrays.{Array, least, greatest}
use Rattle.tc_fixed.specs.Cells.{IsCell, IsMapOf, cell_at}

-- the first rule: a head stands at the front
pub record HasHead (bytes : List ℕ) (h : FixedHead) : Type 0 where
  pub long : 256 ≤ length bytes
  pub numbers : HasFixedNumbers h
  pub spells : SpellsFixed h (take 256 bytes)

-- the second: the file has the file size
abbrev pub IsLong : FixedHead → List ℕ → Type 0
IsLong h bytes = h.size ≤ length bytes

-- the third: each cell up to the greatest id has a value or none
abbrev pub HasCells : FixedHead → List ℕ → Type 0
HasCells h bytes = (id : ℕ) → 1 ≤ id → id ≤ h.greatest → (o : Option (List ℕ)) × IsCell h.width o (cell_at h.width id bytes)

-- the map of the cells that have a value
abbrev pub IsMap : FixedHead → Array → List ℕ → Type 0
IsMap h m bytes = IsMapOf h.width h.greatest m bytes

-- the fourth: the record number is the number of these
abbrev pub HasCount : FixedHead → Array → Type 0
HasCount h m = h.records ≡ len m

-- the fifth: the least and the greatest id are those of the map, 0 where it holds nothing
pub record HasEnds (h : FixedHead) (m : Array) : Type 0 where
  pub least : h.least ≡ least m
  pub greatest : h.greatest ≡ greatest m

-- all rules hold with this head, and the map is that of the cells
pub record StandsBy (h : FixedHead) (bytes : List ℕ) (m : Array) : Type 0 where
  pub head : HasHead bytes h
  pub long : IsLong h bytes
  pub map : IsMap h m bytes
  pub count : HasCount h m
  pub ends : HasEnds h m

-- the bytes are a file of that width and with that greatest id allowed, which stands for the map
pub record Stands (bytes : List ℕ) (width most : ℕ) (m : Array) : Type 0 where
  pub head : FixedHead
  pub by : StandsBy head bytes m
  pub width_is : width ≡ head.width
  pub most_is : most ≡ max_id head
