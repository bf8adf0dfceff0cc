-- The files of a table that were packed: that of the rows in a form, those of the indexes in the form that they have.
use Rattle.std.specs.Prelude.{◌≡◌, ℕ, List, [], ◌∷◌}
use Rattle.tc_base.specs.Files.{Files}
use Rattle.tc_base.specs.declared.kind.Form.{Form}
use Rattle.tc_base.specs.declared.kind.Form.TheVariants.{Keep}
use Rattle.tc_space.specs.declared.space.Space.{Ghosts}
use Rattle.tc_space.specs.declared.records.Records as records
use Rattle.tc_space.specs.declared.multi.Multi as multi
use Rattle.tc_model.specs.Contents.{Rows}
use Rattle.td_index.specs.Entries.{Firsts}
use Rattle.tc_table.specs.Settling.{AllKeep, TreeKeeps}
use Rattle.tc_table.specs.Sides.{AllStand, AreApart, OthersAll, TreeStands, files, tree_file}
use Rattle.tc_table.specs.Tables.{Holds, files_of}
use Rattle.tc_table.specs.declared.side.Side.{Side}
use Rattle.tc_table.specs.declared.side.Sorted.{Sorted}
use Rattle.tc_table.specs.declared.side.Sorted.TheVariants.{Lexical, Decimal}
use Rattle.tc_table.specs.declared.table.Table.{Table}

module _ {S L OL D OD : Type 0} (s : Ghosts S) (l : multi.Ghosts L S OL) (d : multi.Ghosts D S OD) where
  -- ---- one tree

  -- it was packed from a file with the first bytes, and has the others, which aren't settled yet
  abbrev pub tree_tight : Sorted L D → List ℕ → List ℕ → Type 0
  tree_tight (Lexical i) from bytes = l.tight i.tree from Keep bytes
  tree_tight (Decimal i) from bytes = d.tight i.tree from Keep bytes

  abbrev pub tree_packed : Sorted L D → List ℕ → List ℕ → Type 0
  tree_packed (Lexical i) from bytes = l.packed from Keep bytes
  tree_packed (Decimal i) from bytes = d.packed from Keep bytes

  -- it was packed from the file that it had
  abbrev pub TreeTight : Sorted L D → Sorted L D → S → S → Type 0
  TreeTight x y a b = (h : Firsts) → TreeStands s l d x a h → tree_tight y (s.now a (tree_file l d x)) (s.now b (tree_file l d x))

  -- once it is settled its file is packed
  abbrev pub TreePacks : Sorted L D → S → S → Type 0
  TreePacks x a b = (from : List ℕ) (h : Firsts) → tree_tight x from (s.now a (tree_file l d x)) → TreeStands s l d x a h → tree_packed x from (s.now b (tree_file l d x))

  -- ---- all of them

  abbrev pub AllTight : List (Side L D) → Files → Files → Type 0
  AllTight [] from now = Unit {0}
  AllTight (x ∷ xs) from now = tree_tight x.tree (from (tree_file l d x.tree)) (now (tree_file l d x.tree)) × AllTight xs from now

  abbrev pub AllPacked : List (Side L D) → Files → Files → Type 0
  AllPacked [] from now = Unit {0}
  AllPacked (x ∷ xs) from now = tree_packed x.tree (from (tree_file l d x.tree)) (now (tree_file l d x.tree)) × AllPacked xs from now

  abbrev pub AllTighten : List (Side L D) → List (Side L D) → S → S → Type 0
  AllTighten xs ys a b = (rows : Rows) → AreApart (files l d xs) → AllStand s l d xs a rows → AllTight ys (s.now a) (s.now b)

  abbrev pub AllPack : List (Side L D) → S → S → Type 0
  AllPack xs a b = (from : Files) (rows : Rows) → AreApart (files l d xs) → AllStand s l d xs a rows → AllTight xs from (s.now a) → AllPacked xs from (s.now b)

  -- ---- a table

  module _ {R : Type 0} (r : records.Ghosts R S) where
    pub record IsTight (t : Table R L D) (from : Files) (form : Form) (now : Files) : Type 0 where
      pub rows : r.tight t.rows (from (r.file_of t.rows)) form (now (r.file_of t.rows))
      pub sides : AllTight t.sides.items from now

    pub record IsPacked (t : Table R L D) (from : Files) (form : Form) (now : Files) : Type 0 where
      pub rows : r.packed (from (r.file_of t.rows)) form (now (r.file_of t.rows))
      pub sides : AllPacked t.sides.items from now

    -- it holds the same, in files that were packed from those that it had
    pub record Packs (form : Form) (t t' : Table R L D) (a b : S) : Type 0 where
      pub sound : s.sound b
      pub means : (rows : Rows) → Holds s r l d t a rows → Holds s r l d t' b rows
      pub tight : (rows : Rows) → Holds s r l d t a rows → IsTight t' (s.now a) form (s.now b)
      pub others : OthersAll s (files_of r l d t) a b

    -- once it is settled its files are packed from those that it was packed from
    abbrev pub TablePacks : Table R L D → S → S → Type 0
    TablePacks t a b = (from : Files) (form : Form) (rows : Rows) → IsTight t from form (s.now a) → Holds s r l d t a rows → IsPacked t from form (s.now b)
