-- What an index has of the rows of a table, by the rows and by the bytes of their records.
use Rattle.std.specs.Prelude.{◌≡◌, ℕ, zero, suc, List, [], ◌∷◌, length, Option, Some, None, Ok, Err, flat_map, option_map, option_to_list, if◌then◌else◌}
use Rattle.std.specs.List.{list_all}
use Rattle.std.specs.FinMap.{get}
use Rattle.tc_base.specs.Maps.{Map}
use Rattle.tc_base.specs.Texts.{is_text}
use Rattle.tc_base.specs.Reading.{Front}
use Rattle.tc_base.specs.declared.seq.Pair.{Pair}
use Rattle.tc_model.specs.Contents.{Rows}
use Rattle.tc_model.specs.Indexes.{firsts}
use Rattle.tc_model.specs.Rows.{Row, column, is_column}
use Rattle.tc_model.specs.declared.query.IndexKind.{IndexKind}
use Rattle.td_index.specs.Entries.{Firsts}
use Rattle.td_row.specs.Spelling.{column_at, row_bytes}

-- the value of a row's column, where there is a row that has it
abbrev pub column_in : List ℕ → Option Row → Option (List ℕ)
column_in name None = None
column_in name (Some row) = column row name

-- what an index has of a value, where there is one
abbrev pub parts_of_value : IndexKind → Option (List ℕ) → List (List ℕ)
parts_of_value kind value = flat_map (firsts kind) (option_to_list value)

-- what a row gives an index of a column
abbrev pub parts_of_row : IndexKind → List ℕ → Option Row → List (List ℕ)
parts_of_row kind name row = parts_of_value kind (column_in name row)

abbrev pub parts_of : IndexKind → List ℕ → Rows → Firsts
parts_of kind name rows key = parts_of_row kind name (get rows key)

-- the row of one key is another, or none
abbrev pub IsNext : List ℕ → Option Row → Rows → Rows → Type 0
IsNext key new m n = (k : List ℕ) → get n k ≡ (if is_text k key then new else get m k)

-- ---- records

-- each record is the bytes of a row
abbrev pub AreSpelled : Map → Rows → Type 0
AreSpelled records rows = (key : List ℕ) → get records key ≡ option_map row_bytes (get rows key)

abbrev pub behind_column : (List ℕ → List Pair) → Front Pair → List Pair
behind_column next (Ok x) = x.0 ∷ next x.1
behind_column next (Err e) = []

-- the columns that stand in bytes one behind the other, so many at most
abbrev pub columns_in : ℕ → List ℕ → List Pair
columns_in zero bytes = []
columns_in (suc n) [] = []
columns_in (suc n) (b ∷ bytes) = behind_column (columns_in n) (column_at (b ∷ bytes))

abbrev pub row_in : List ℕ → List Pair
row_in bytes = columns_in (length bytes) bytes

-- what the row that bytes are gives it, if they are one
abbrev pub parts_in : IndexKind → List ℕ → List ℕ → List (List ℕ)
parts_in kind name bytes = if list_all is_column (row_in bytes) then parts_of_row kind name (Some (row_in bytes)) else []
