-- A table: rows by primary key, and the indexes of their columns.
use Rattle.std.specs.Prelude.{◌≡◌, ◌⊎◌, ◌↔◌, ℕ, Bool, true, false, List, [], ◌∷◌, ◌++◌, Option, Some, None, IsTrue, is_some, option_and_then, unwrap_or, if◌then◌else◌}
use Rattle.std.specs.FinMap.{get, insert, keys}
use Rattle.std.specs.declared.cmp.Ordering.{Ordering}
use Rattle.tc_base.specs.Maps.{Map}
use Rattle.tc_base.specs.declared.seq.Pair.{Pair}
use Rattle.tc_base.specs.declared.kind.Mode.{Mode}
use Rattle.tc_base.specs.declared.kind.Mode.TheVariants.{Over, Keep, Cat}
use Rattle.tc_space.specs.Changes.{out_of, put_in}
use Rattle.tc_space.specs.Frames.{In, Keeps, Reads}
use Rattle.tc_space.specs.Stores.{FullPutIn, WritesIn}
use Rattle.tc_space.specs.declared.space.Space.{Ghosts}
use Rattle.tc_space.specs.declared.records.Records as records
use Rattle.tc_space.specs.declared.multi.Multi as multi
use Rattle.tc_model.specs.Contents.{Rows}
use Rattle.tc_model.specs.Rows.{Row, row_text, with_lacking}
use Rattle.tc_model.specs.Values.{allowed}
use Rattle.tc_model.specs.Stores.{put_row}
use Rattle.tc_model.specs.Well.{AreRows}
use Rattle.td_index.specs.Checks.{StaysRows}
use Rattle.td_index.specs.Entries.{AreOwed}
use Rattle.td_row.specs.Spelling.{row_bytes}
use Rattle.tc_table.specs.Full.{FullSince}
use Rattle.tc_table.specs.Parts.{AreSpelled, parts_of}
use Rattle.tc_table.specs.Opening.{AreAllRows, TreeHolds, rows_in}
use Rattle.tc_table.specs.Sides.{AllStand, AllStay, AreApart, IsAway, OthersAll, StaysSide, asks_decimal, files, is_decimal, name_of, tree_file}
use Rattle.tc_table.specs.declared.side.Side.{Side}
use Rattle.tc_table.specs.declared.table.Table.{Table}

module _ {S R L OL D OD : Type 0} (r : records.Ghosts R S) (l : multi.Ghosts L S OL) (d : multi.Ghosts D S OD) where
  -- its main file, and those of its indexes
  abbrev pub files_of : Table R L D → List ℕ
  files_of t = r.file_of t.rows ∷ files l d t.sides.items

  -- files, types, names and numbers stay, and no more lies free in front of a first block than did
  pub record StaysTable (t t' : Table R L D) : Type 0 where
    pub rows : StaysRows r t.rows t'.rows
    pub sides : AllStay l d t.sides.items t'.sides.items

-- the row that a put gives a key, by the one that it has; none where that is to be kept
abbrev pub row_made : Mode → Option Row → Row → Option Row
row_made Over old row = Some row
row_made Keep old row = if is_some old then None else Some row
row_made Cat old row = Some (with_lacking (unwrap_or old []) row)

-- if its text isn't too long
abbrev pub row_allowed : Row → Option Row
row_allowed row = if is_some (allowed (row_text row)) then Some row else None

abbrev pub row_put : Mode → Option Row → Row → Option Row
row_put mode old row = option_and_then row_allowed (row_made mode old row)

-- its main file has the bytes of the rows, and each index its parts of them
pub record Holds {S R L OL D OD : Type 0} (s : Ghosts S) (r : records.Ghosts R S) (l : multi.Ghosts L S OL) (d : multi.Ghosts D S OD) (t : Table R L D) (space : S) (rows : Rows) : Type 0 where
  pub store : Map
  pub held : In s r.file_of r.holds t.rows space store
  pub spelled : AreSpelled store rows
  pub are : AreRows rows
  pub apart : AreApart (files_of r l d t)
  pub indexes : AllStand s l d t.sides.items space rows

module _ {S R L OL D OD : Type 0} (s : Ghosts S) (r : records.Ghosts R S) (l : multi.Ghosts L S OL) (d : multi.Ghosts D S OD) where
  -- where a key has this row, or none, the rows are others then; files that aren't its own stay
  pub record Sets (key : List ℕ) (old : Option Row) (f : Rows → Rows) (t t' : Table R L D) (a b : S) : Type 0 where
    pub sound : s.sound b
    pub means : (rows : Rows) → Holds s r l d t a rows → get rows key ≡ old → Holds s r l d t' b (f rows)
    pub others : OthersAll s (files_of r l d t) a b

  -- a change was made, or it fails and nothing has changed
  pub record Makes (f : Rows → Option Rows) (done : Bool) (t t' : Table R L D) (a b : S) : Type 0 where
    pub sound : s.sound b
    pub others : OthersAll s (files_of r l d t) a b
    pub made : done ≡ true → (rows : Rows) → Holds s r l d t a rows → (n : Rows) × (f rows ≡ Some n) × Holds s r l d t' b n
    pub fails : done ≡ false → (rows : Rows) → Holds s r l d t a rows → f rows ≡ None
    pub same : done ≡ false → Reads s (Holds s r l d) t t' a b

  -- the rows of a map were opened as a table without indexes, and these are their keys
  pub record OpensRows (v : R) (t : Table R L D) (ks : List (List ℕ)) (a b : S) : Type 0 where
    pub rows : (m : Map) → In s r.file_of r.holds v a m → AreAllRows m × Holds s r l d t b (rows_in m)
    pub keys_are : (m : Map) → In s r.file_of r.holds v a m → ks ≡ keys (rows_in m)
    pub stays : StaysRows r v t.rows
    pub none : t.sides.items ≡ []

  -- whether an index has its parts of the rows and no others, where these are their keys
  abbrev pub JudgesSide : Side L D → List (List ℕ) → Table R L D → S → Bool → Type 0
  JudgesSide x ks t a fits = (rows : Rows) (ps : List Pair) → ks ≡ keys rows → Holds s r l d t a rows → TreeHolds s l d x.tree a ps → IsTrue fits ↔ AreOwed (parts_of x.kind (name_of x.tree) rows) ps

  -- an index came in behind the others, or nothing has changed
  pub record Admits (x : Side L D) (ks : List (List ℕ)) (fits : Bool) (t t' : Table R L D) (a b : S) : Type 0 where
    pub now : s.tells → (g : ℕ) → s.now b g ≡ s.now a g
    pub touched : s.touched b ≡ s.touched a
    pub sound : s.sound b
    pub rows : StaysRows r t.rows t'.rows
    pub taken : fits ≡ true → (y : Side L D) × StaysSide l d x y × (t'.sides.items ≡ t.sides.items ++ y ∷ [])
    pub means : fits ≡ true → (rows : Rows) (ps : List Pair) → ks ≡ keys rows → Holds s r l d t a rows → TreeHolds s l d x.tree a ps → IsAway (tree_file l d x.tree) (files_of r l d t) → is_decimal x.tree ≡ asks_decimal x.kind → Holds s r l d t' b rows
    pub left : fits ≡ false → Reads s (Holds s r l d) t t' a b
    pub still : fits ≡ false → AllStay l d t.sides.items t'.sides.items

  module _ (lc dc : List ℕ → List ℕ → Ordering) where
    -- a limit was reached at an index, behind a change of the record of the row
    pub record FullIndex (key : List ℕ) (old new : Option Row) (f : Map → Map) (t : Table R L D) (a b : S) : Type 0 where
      pub rows : R
      pub moment : S
      pub wrote : WritesIn s r.file_of r.holds f t.rows rows a moment
      pub since : Keeps s a moment
      pub full : FullSince s l d lc dc key old new t.sides.items moment b

    -- or at the record of the new row
    abbrev pub FullSet : List ℕ → Option Row → Row → Table R L D → S → S → Type 0
    FullSet key old new t a b = FullPutIn s r.file_of r.holds r.lacks Over key (row_bytes new) t.rows a b ⊎ FullIndex key old (Some new) (put_in Over key (row_bytes new)) t a b

    -- or the undo log was full
    abbrev pub FullDrop : List ℕ → Option Row → Table R L D → S → S → Type 0
    FullDrop key old t a b = (s.tells → s.log_full b) ⊎ FullIndex key old None (out_of key) t a b

    -- so it was of the row that a key had, once it was read
    pub record FullOut (key : List ℕ) (t : Table R L D) (a b : S) : Type 0 where
      pub old : Row
      pub table : Table R L D
      pub moment : S
      pub reads : Reads s (Holds s r l d) t table a moment
      pub stays : StaysTable r l d t table
      pub since : Keeps s a moment
      pub had : (rows : Rows) → Holds s r l d t a rows → get rows key ≡ Some old
      pub full : FullDrop key (Some old) table moment b

    -- and of the row that a put was to give it
    pub record FullPut (mode : Mode) (key : List ℕ) (row : Row) (t : Table R L D) (a b : S) : Type 0 where
      pub old : Option Row
      pub new : Row
      pub table : Table R L D
      pub moment : S
      pub reads : Reads s (Holds s r l d) t table a moment
      pub stays : StaysTable r l d t table
      pub since : Keeps s a moment
      pub had : (rows : Rows) → Holds s r l d t a rows → get rows key ≡ old
      pub gives : (rows : Rows) → Holds s r l d t a rows → put_row mode rows key row ≡ Some (insert rows key new)
      pub full : FullSet key old new table moment b
