-- What is asked of the files of a table: each record of the main file is a row's, and each index has its parts of the rows.
use Rattle.std.specs.Prelude.{◌≡◌, ℕ, Bool, true, false, List, Some}
use Rattle.std.specs.FinMap.{get, keys}
use Rattle.tc_base.specs.Maps.{Map}
use Rattle.tc_base.specs.declared.seq.Pair.{Pair}
use Rattle.tc_space.specs.Frames.{In}
use Rattle.tc_space.specs.declared.space.Space.{Ghosts}
use Rattle.tc_space.specs.declared.records.Records as records
use Rattle.tc_space.specs.declared.multi.Multi as multi
use Rattle.tc_model.specs.Contents.{Rows}
use Rattle.tc_model.specs.Rows.{Row}
use Rattle.td_row.specs.Spelling.{SpellsRow}
use Rattle.tc_table.specs.Parts.{row_in}
use Rattle.tc_table.specs.Valued.{with_values}
use Rattle.tc_table.specs.declared.side.Sorted.{Sorted}
use Rattle.tc_table.specs.declared.side.Sorted.TheVariants.{Lexical, Decimal}

-- ---- records that are rows

-- the record of a key is a row's, if it has one
abbrev pub IsRowAt : Map → List ℕ → Type 0
IsRowAt m key = (bytes : List ℕ) → get m key ≡ Some bytes → (row : Row) × SpellsRow bytes row

-- or it is no row's
abbrev pub IsNoRowAt : Map → List ℕ → Type 0
IsNoRowAt m key = (bytes : List ℕ) × (get m key ≡ Some bytes) × ((row : Row) → SpellsRow bytes row → ⊥)

abbrev pub TellsRow : Map → List ℕ → Bool → Type 0
TellsRow m key true = IsRowAt m key
TellsRow m key false = IsNoRowAt m key

abbrev pub AreAllRows : Map → Type 0
AreAllRows m = (key : List ℕ) → IsRowAt m key

abbrev pub JudgesRows : Map → Bool → Type 0
JudgesRows m true = AreAllRows m
JudgesRows m false = (key : List ℕ) × IsNoRowAt m key

-- where these are the keys of the map
abbrev pub JudgesKeys : List (List ℕ) → Map → Bool → Type 0
JudgesKeys ks m true = ks ≡ keys m → AreAllRows m
JudgesKeys ks m false = JudgesRows m false

-- some record isn't
abbrev pub HasNoRows : {S V : Type 0} → Ghosts S → records.Ghosts V S → V → S → Type 0
HasNoRows s r v space = (m : Map) → In s r.file_of r.holds v space m → JudgesRows m false

-- ---- the rows that records are

abbrev pub rows_in : Map → Rows
rows_in m = with_values row_in m

-- ---- pairs of a tree

module _ {S L OL D OD : Type 0} (s : Ghosts S) (l : multi.Ghosts L S OL) (d : multi.Ghosts D S OD) where
  abbrev pub TreeHolds : Sorted L D → S → List Pair → Type 0
  TreeHolds (Lexical i) space ps = In s l.file_of l.holds i.tree space ps
  TreeHolds (Decimal i) space ps = In s d.file_of d.holds i.tree space ps

  module _ {V : Type 0} (r : records.Ghosts V S) where
    -- a map and a list of pairs over one space
    abbrev pub AreTold : V × Sorted L D → S → Map × List Pair → Type 0
    AreTold v space m = In s r.file_of r.holds v.0 space m.0 × TreeHolds v.1 space m.1
