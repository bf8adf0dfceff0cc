-- What a table holds over the bytes of files.
use Rattle.std.specs.Prelude.{◌≡◌, ◌↔◌, ℕ, List, [], ◌∷◌}
use Rattle.tc_base.specs.Files.{Files}
use Rattle.tc_base.specs.Maps.{Map}
use Rattle.tc_base.specs.declared.seq.Pair.{Pair}
use Rattle.tc_space.specs.declared.space.Space.{Ghosts}
use Rattle.tc_space.specs.declared.records.Records as records
use Rattle.tc_space.specs.declared.multi.Multi as multi
use Rattle.tc_model.specs.Contents.{Rows}
use Rattle.tc_model.specs.Well.{AreRows}
use Rattle.td_index.specs.Entries.{AreOwed, Firsts}
use Rattle.tc_table.specs.Parts.{AreSpelled, parts_of}
use Rattle.tc_table.specs.Sides.{AreApart, asks_decimal, is_decimal, name_of}
use Rattle.tc_table.specs.Tables.{Holds, files_of}
use Rattle.tc_table.specs.declared.side.Side.{Side}
use Rattle.tc_table.specs.declared.side.Sorted.{Sorted}
use Rattle.tc_table.specs.declared.side.Sorted.TheVariants.{Lexical, Decimal}
use Rattle.tc_table.specs.declared.table.Table.{Table}

-- a list holds just the keys that are owed
pub record ListOver {S M O : Type 0} (m : multi.Ghosts M S O) (tree : M) (files : Files) (h : Firsts) : Type 0 where
  pub pairs : List Pair
  pub held : m.holds tree (files (m.file_of tree)) pairs
  pub exact : AreOwed h pairs

module _ {S L OL D OD : Type 0} (l : multi.Ghosts L S OL) (d : multi.Ghosts D S OD) where
  abbrev pub TreeOver : Sorted L D → Files → Firsts → Type 0
  TreeOver (Lexical i) files h = ListOver l i.tree files h
  TreeOver (Decimal i) files h = ListOver d i.tree files h

  -- an index has its parts of the rows, in the order of its type
  pub record SideOver (x : Side L D) (files : Files) (rows : Rows) : Type 0 where
    pub fits : is_decimal x.tree ≡ asks_decimal x.kind
    pub stands : TreeOver x.tree files (parts_of x.kind (name_of x.tree) rows)

  abbrev pub AllOver : List (Side L D) → Files → Rows → Type 0
  AllOver [] files rows = Unit {0}
  AllOver (x ∷ xs) files rows = SideOver x files rows × AllOver xs files rows

module _ {S R L OL D OD : Type 0} (r : records.Ghosts R S) (l : multi.Ghosts L S OL) (d : multi.Ghosts D S OD) where
  -- its main file has the bytes of the rows, and each index its parts of them
  pub record HoldsOver (t : Table R L D) (files : Files) (rows : Rows) : Type 0 where
    pub store : Map
    pub held : r.holds t.rows (files (r.file_of t.rows)) store
    pub spelled : AreSpelled store rows
    pub are : AreRows rows
    pub apart : AreApart (files_of r l d t)
    pub indexes : AllOver l d t.sides.items files rows

  -- so it holds them with the files as they are now, where they are told
  abbrev pub OverLaw : Ghosts S → Type 0
  OverLaw s = (t : Table R L D) (space : S) (rows : Rows) → Holds s r l d t space rows ↔ (s.tells × HoldsOver t (s.now space) rows)
