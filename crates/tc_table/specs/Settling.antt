-- What the files of a table stand for once it is settled.
use Rattle.std.specs.Prelude.{◌≡◌, ℕ, List, [], ◌∷◌}
use Rattle.tc_base.specs.Maps.{Map}
use Rattle.tc_base.specs.declared.seq.Pair.{Pair}
use Rattle.tc_space.specs.Frames.{Others}
use Rattle.tc_space.specs.Lists.{Made}
use Rattle.tc_space.specs.Stores.{Only}
use Rattle.tc_space.specs.declared.space.Space.{Ghosts}
use Rattle.tc_space.specs.declared.records.Records as records
use Rattle.tc_space.specs.declared.multi.Multi as multi
use Rattle.tc_model.specs.Contents.{Rows}
use Rattle.td_index.specs.Entries.{AreOwed, Firsts}
use Rattle.tc_table.specs.Parts.{AreSpelled, parts_of}
use Rattle.tc_table.specs.Sides.{AllStand, AreApart, OthersAll, TreeStands, files, name_of, tree_file}
use Rattle.tc_table.specs.Tables.{Holds, files_of}
use Rattle.tc_table.specs.declared.side.Side.{Side}
use Rattle.tc_table.specs.declared.side.Sorted.{Sorted}
use Rattle.tc_table.specs.declared.side.Sorted.TheVariants.{Lexical, Decimal}
use Rattle.tc_table.specs.declared.table.Table.{Table}

-- bytes open to a list that was made so, with just the keys that are owed
pub record IsListOf {S M O : Type 0} (m : multi.Ghosts M S O) (made : Made) (h : Firsts) (bytes : List ℕ) : Type 0 where
  pub pairs : List Pair
  pub owed : AreOwed h pairs
  pub stands : m.stands made bytes pairs

module _ {S L OL D OD : Type 0} (s : Ghosts S) (l : multi.Ghosts L S OL) (d : multi.Ghosts D S OD) where
  -- ---- one tree

  abbrev pub TreeFile : Sorted L D → Firsts → List ℕ → Type 0
  TreeFile (Lexical i) h bytes = IsListOf l (l.made i.tree) h bytes
  TreeFile (Decimal i) h bytes = IsListOf d (d.made i.tree) h bytes

  -- how many bytes hold nothing at the end of its file
  abbrev pub tree_slack : Sorted L D → List ℕ → ℕ
  tree_slack (Lexical i) bytes = l.slack bytes
  tree_slack (Decimal i) bytes = d.slack bytes

  -- it stands for what it stood for, and other files stay
  pub record TreeKeeps (x y : Sorted L D) (a b : S) : Type 0 where
    pub sound : s.sound b
    pub means : (h : Firsts) → TreeStands s l d x a h → TreeStands s l d y b h
    pub others : Others s (Only (tree_file l d x)) a b

  -- its file opens to that, and no byte at its end holds nothing
  pub record TreeBrings (x : Sorted L D) (a b : S) : Type 0 where
    pub file : (h : Firsts) → TreeStands s l d x a h → TreeFile x h (s.now b (tree_file l d x))
    pub trims : (h : Firsts) → TreeStands s l d x a h → tree_slack x (s.now b (tree_file l d x)) ≡ 0

  -- ---- all of them

  -- this is so of each one's bytes
  abbrev pub AllOver : (Side L D → List ℕ → Type 0) → List (Side L D) → S → Type 0
  AllOver P [] space = Unit {0}
  AllOver P (x ∷ xs) space = P x (s.now space (tree_file l d x.tree)) × AllOver P xs space

  pub record IsIndexFile (rows : Rows) (x : Side L D) (bytes : List ℕ) : Type 0 where
    pub file : TreeFile x.tree (parts_of x.kind (name_of x.tree) rows) bytes
    pub trims : tree_slack x.tree bytes ≡ 0

  pub record AllKeep (xs ys : List (Side L D)) (a b : S) : Type 0 where
    pub sound : s.sound b
    pub means : (rows : Rows) → AreApart (files l d xs) → AllStand s l d xs a rows → AllStand s l d ys b rows
    pub others : OthersAll s (files l d xs) a b

  abbrev pub AllBring : List (Side L D) → S → S → Type 0
  AllBring xs a b = (rows : Rows) → AreApart (files l d xs) → AllStand s l d xs a rows → AllOver (IsIndexFile rows) xs b

  -- ---- a table

  -- its main file opens to the bytes of the rows, with what its owner wrote, and the file of each index to its parts of them; no byte at their ends holds nothing
  pub record AreFilesOf {R : Type 0} (r : records.Ghosts R S) (t : Table R L D) (space : S) (rows : Rows) : Type 0 where
    pub store : Map
    pub spelled : AreSpelled store rows
    pub main : r.stands (r.sort t.rows) (r.numbers t.rows) (s.now space (r.file_of t.rows)) store (r.region t.rows)
    pub trims : r.slack (s.now space (r.file_of t.rows)) ≡ 0
    pub indexes : AllOver (IsIndexFile rows) t.sides.items space

  -- it holds the same, and its files stand for that
  pub record Settles {R : Type 0} (r : records.Ghosts R S) (t t' : Table R L D) (a b : S) : Type 0 where
    pub sound : s.sound b
    pub means : (rows : Rows) → Holds s r l d t a rows → Holds s r l d t' b rows
    pub stand : (rows : Rows) → Holds s r l d t a rows → AreFilesOf r t b rows
    pub others : OthersAll s (files_of r l d t) a b
