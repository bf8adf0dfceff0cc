-- What contents are like after any requests.
use Rattle.std.specs.Prelude.{◌≡◌, ℕ, ◌≤◌, true, List, length, Some}
use Rattle.std.specs.List.{list_all}
use Rattle.std.specs.FinMap.{get, len}
use Rattle.tc_base.specs.Lists.{Rises}
use Rattle.tc_base.specs.Orders.{order}
use Rattle.tc_model.specs.Arrays.{Array}
use Rattle.tc_model.specs.Rows.{Row, is_column, is_distinct}
use Rattle.tc_model.specs.Contents.{Contents, hash, tree, fixed, table, Rows}

-- names and values are as they may be, and no name comes twice
pub record IsRow (row : Row) : Type 0 where
  pub columns : list_all is_column row ≡ true
  pub distinct : is_distinct row ≡ true

pub record IsCell (width most id : ℕ) (value : List ℕ) : Type 0 where
  pub first : 1 ≤ id
  pub last : id ≤ most
  pub short : length value ≤ width

abbrev pub AreCells : ℕ → ℕ → Array → Type 0
AreCells width most ids = (id : ℕ) (value : List ℕ) → get ids id ≡ Some value → IsCell width most id value

abbrev pub AreRows : Rows → Type 0
AreRows rows = (key : List ℕ) (row : Row) → get rows key ≡ Some row → IsRow row

-- the keys of maps are distinct and ascend by the type of maps
abbrev pub IsWell : Contents → Type 0
IsWell (hash memory m) = Unit {0}
IsWell (tree memory decimal ps) = Rises (order decimal) ps
IsWell (fixed width most ids) = AreCells width most ids
IsWell (table rows indexes) = AreRows rows × (len indexes ≤ 16)
