-- What the engine of a table database holds.
use Rattle.std.specs.Prelude.{◌≡◌, ◌⊎◌, ℕ, true, false, List, [], ◌∷◌, map, Option, Some, IfSome}
use Rattle.std.specs.FinMap.{empty, insert}
use Rattle.tc_base.specs.Files.{Files}
use Rattle.tc_base.specs.declared.kind.Form.{Form}
use Rattle.tc_base.specs.declared.kind.Form.TheVariants.{Keep}
use Rattle.tc_space.specs.declared.records.Records as records
use Rattle.tc_space.specs.declared.multi.Multi as multi
use Rattle.tc_base.specs.declared.order.Decimal.{Decimal}
use Rattle.tc_base.specs.declared.order.Lexical.{Lexical}
use Rattle.tc_btree.specs.declared.btree.Btree.{Btree}
use Rattle.tc_hash.specs.Repacking.{IsPackedFrom}
use Rattle.tc_hash.specs.declared.hash.Hash.{Hash}
use Rattle.tc_model.specs.Contents.{Contents, Indexes, Rows, table}
use Rattle.tc_model.specs.Stores.{size_of}
use Rattle.tc_model.specs.Texts.{is_among, not_empty}
use Rattle.tc_table.specs.Over.{HoldsOver}
use Rattle.tc_table.specs.Sides.{IsAway, files as side_files, name_of, tree_file, tree_made}
use Rattle.tc_table.specs.declared.side.Side.{Side}
use Rattle.tc_table.specs.declared.table.Table.{Table}
use Rattle.tc_tabledb.specs.declared.holding.TableEngine.{TableEngine}
use Rattle.tc_tabledb.specs.Files.{IsIndexPlace, column_bytes, index_files, order_code}

-- ---- the indexes of a table

abbrev pub names : {L D : Type 0} → List (Side L D) → List (List ℕ)
names xs = map (λ x. name_of x.tree) xs

-- none comes twice
abbrev pub AreDistinct : List (List ℕ) → Type 0
AreDistinct [] = Unit {0}
AreDistinct (n ∷ ns) = (is_among n ns ≡ false) × AreDistinct ns

abbrev pub indexes_of : {L D : Type 0} → List (Side L D) → Indexes
indexes_of [] = empty
indexes_of (x ∷ xs) = insert (indexes_of xs) (name_of x.tree) x.kind

module _ {S R L OL D OD : Type 0} (r : records.Ghosts R S) (l : multi.Ghosts L S OL) (d : multi.Ghosts D S OD) where
  -- its list is one of a tree file with the record of its type and column, which is one of the files 3 to 18
  pub record IsMade (x : Side L D) : Type 0 where
    pub sort : (tree_made l d x.tree).sort ≡ 1
    pub code : (tree_made l d x.tree).code ≡ order_code x.kind
    pub column : (tree_made l d x.tree).column ≡ Some (column_bytes x.kind (name_of x.tree))
    pub named : not_empty (name_of x.tree) ≡ true
    pub file : IsIndexPlace (tree_file l d x.tree)

  abbrev pub AllMade : List (Side L D) → Type 0
  AllMade [] = Unit {0}
  AllMade (x ∷ xs) = IsMade x × AllMade xs

  -- the file of an index that none of these has is empty
  abbrev pub LeavesRest : List (Side L D) → Files → Type 0
  LeavesRest xs files = (f : ℕ) → IsIndexPlace f → IsAway f (side_files l d xs) → files f ≡ []

  -- ---- a table

  -- over these files it holds the rows and the types of its indexes, and what was counted of them is so
  pub record HoldsTable (t : Table R L D) (total : Option ℕ) (files : Files) (c : Contents) : Type 0 where
    pub rows : Rows
    pub is : c ≡ table rows (indexes_of t.sides.items)
    pub held : HoldsOver r l d t files rows
    pub main : r.file_of t.rows ≡ 0
    pub sort : r.sort t.rows ≡ 3
    pub made : AllMade t.sides.items
    pub distinct : AreDistinct (names t.sides.items)
    pub rest : LeavesRest t.sides.items files
    pub counted : IfSome total (λ n. n ≡ size_of c)

-- ---- the engine

abbrev pub LexicalList : Type 0 → Type 0
LexicalList S = Btree (Hash S) Lexical

abbrev pub DecimalList : Type 0 → Type 0
DecimalList S = Btree (Hash S) Decimal

module _ {S : Type 0} (r : records.Ghosts (Hash S) S) (l : multi.Ghosts (LexicalList S) S Lexical) (d : multi.Ghosts (DecimalList S) S Decimal) where
  abbrev pub HoldsEngine : TableEngine S → Files → Contents → Type 0
  HoldsEngine e files c = HoldsTable r l d e.table e.total files c

-- ---- packed files

-- each of these files is empty or packed from another in the form that it has
abbrev pub AllPackedFrom : Files → Files → List ℕ → Type 0
AllPackedFrom from files [] = Unit {0}
AllPackedFrom from files (f ∷ fs) = ((files f ≡ []) ⊎ IsPackedFrom (from f) Keep (files f)) × AllPackedFrom from files fs

-- file 0 is packed from another in a form, and the files of the indexes in the form that they have
pub record ArePackedFrom (from : Files) (form : Form) (files : Files) : Type 0 where
  pub main : IsPackedFrom (from 0) form (files 0)
  pub indexes : AllPackedFrom from files index_files
