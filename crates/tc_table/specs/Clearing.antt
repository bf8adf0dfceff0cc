-- A table that is emptied.
use Rattle.std.specs.Prelude.{◌≡◌, ◌⊎◌, List, [], ◌∷◌, ◌++◌}
use Rattle.std.specs.FinMap.{empty}
use Rattle.tc_space.specs.Frames.{GivenUp, Keeps, Others}
use Rattle.tc_space.specs.Stores.{FullClear, Only, WritesIn}
use Rattle.tc_space.specs.declared.space.Space.{Ghosts}
use Rattle.tc_space.specs.declared.records.Records as records
use Rattle.tc_space.specs.declared.multi.Multi as multi
use Rattle.tc_model.specs.Contents.{Rows}
use Rattle.td_index.specs.Entries.{Firsts}
use Rattle.tc_table.specs.Sides.{AllStand, AreApart, OthersAll, TreeStands, files, tree_file}
use Rattle.tc_table.specs.Tables.{Holds, files_of}
use Rattle.tc_table.specs.declared.side.Side.{Side}
use Rattle.tc_table.specs.declared.side.Sorted.{Sorted}
use Rattle.tc_table.specs.declared.side.Sorted.TheVariants.{Lexical, Decimal}
use Rattle.tc_table.specs.declared.table.Table.{Table}

module _ {S L OL D OD : Type 0} (s : Ghosts S) (l : multi.Ghosts L S OL) (d : multi.Ghosts D S OD) where
  -- it stands for nothing, and other files stay
  pub record TreeClears (x y : Sorted L D) (a b : S) : Type 0 where
    pub sound : s.sound b
    pub means : (h : Firsts) → TreeStands s l d x a h → TreeStands s l d y b (λ k. [])
    pub others : Others s (Only (tree_file l d x)) a b

  pub record AllClear (xs ys : List (Side L D)) (a b : S) : Type 0 where
    pub sound : s.sound b
    pub means : (rows : Rows) → AreApart (files l d xs) → AllStand s l d xs a rows → AllStand s l d ys b empty
    pub others : OthersAll s (files l d xs) a b

  -- what an empty tree has in its file had no room
  abbrev pub TreeBare : Sorted L D → S → S → Type 0
  TreeBare (Lexical i) a b = FullClear s l.lacks_bare i.tree a b
  TreeBare (Decimal i) a b = FullClear s d.lacks_bare i.tree a b

  -- that of one of them: at most the files of those in front of it were changed before
  pub record AllBare (xs : List (Side L D)) (a b : S) : Type 0 where
    pub front : List (Side L D)
    pub side : Side L D
    pub back : List (Side L D)
    pub parted : xs ≡ front ++ side ∷ back
    pub moment : S
    pub since : Keeps s a moment
    pub others : OthersAll s (files l d front) a moment
    pub full : TreeBare side.tree moment b

  -- the space was given up since
  pub record BareSince (xs : List (Side L D)) (a b : S) : Type 0 where
    pub refused : S
    pub met : AllBare xs a refused
    pub given_up : GivenUp s refused b

module _ {S R L OL D OD : Type 0} (s : Ghosts S) (r : records.Ghosts R S) (l : multi.Ghosts L S OL) (d : multi.Ghosts D S OD) where
  -- no row is left
  pub record Clears (t t' : Table R L D) (a b : S) : Type 0 where
    pub sound : s.sound b
    pub means : (rows : Rows) → Holds s r l d t a rows → Holds s r l d t' b empty
    pub others : OthersAll s (files_of r l d t) a b

  -- a limit was reached at an index, behind the rows
  pub record FullBehindRows (t : Table R L D) (a b : S) : Type 0 where
    pub rows : R
    pub moment : S
    pub wrote : WritesIn s r.file_of r.holds (λ m. empty) t.rows rows a moment
    pub since : Keeps s a moment
    pub full : BareSince s l d t.sides.items moment b

  -- the undo log is full, or that
  abbrev pub FullEmptying : Table R L D → S → S → Type 0
  FullEmptying t a b = (s.tells → s.log_full b) ⊎ FullBehindRows t a b
