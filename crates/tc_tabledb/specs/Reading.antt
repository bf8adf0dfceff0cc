-- What is read of the rows of a table.
use Rattle.std.specs.Prelude.{ℕ, ◌+◌, List, length, sum_by, Option, Some, None}
use Rattle.std.specs.FinMap.{entries, get}
use Rattle.tc_space.specs.Frames.{Reads}
use Rattle.tc_space.specs.declared.records.Records as records
use Rattle.tc_space.specs.declared.multi.Multi as multi
use Rattle.tc_space.specs.declared.space.Space.{Ghosts}
use Rattle.tc_model.specs.Contents.{Rows}
use Rattle.tc_model.specs.Rows.{Row, texts_of}
use Rattle.tc_model.specs.Stores.{bytes_of}
use Rattle.tc_table.specs.Tables.{Holds, StaysTable}
use Rattle.tc_table.specs.declared.table.Table.{Table}

-- the bytes of names and values, none where there is no row
abbrev pub row_bytes : Option Row → ℕ
row_bytes None = 0
row_bytes (Some row) = bytes_of (texts_of row)

abbrev pub bytes_at : Rows → List ℕ → ℕ
bytes_at rows key = row_bytes (get rows key)

-- those of these primary keys, and of the names and values of their rows
abbrev pub sized_under : Rows → List (List ℕ) → ℕ
sized_under rows ks = sum_by (λ k. length k + bytes_at rows k) ks

-- those of all
abbrev pub size_of_rows : Rows → ℕ
size_of_rows rows = sum_by (λ e. length e.0 + bytes_of (texts_of e.1)) (entries rows)

-- nothing is written, the rows stay, and so do files, types, names and numbers
pub record ReadsTable {S R L OL D OD : Type 0} (s : Ghosts S) (r : records.Ghosts R S) (l : multi.Ghosts L S OL) (d : multi.Ghosts D S OD) (t t' : Table R L D) (old new : S) : Type 0 where
  pub rows : Reads s (Holds s r l d) t t' old new
  pub stays : StaysTable r l d t t'
