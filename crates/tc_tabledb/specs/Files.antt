-- What the files of a table stand for: file 0 the rows, and each of the files 3 to 18 that isn't empty the index of a column.
use Rattle.std.specs.Prelude.{◌≡◌, ◌⊎◌, ◌≤◌, ℕ, true, false, List, [], ◌∷◌, ◌++◌, Some}
use Rattle.std.specs.FinMap.{empty, get, insert}
use Rattle.tc_base.specs.Files.{Files}
use Rattle.tc_base.specs.Maps.{Map}
use Rattle.tc_base.specs.Orders.{order}
use Rattle.tc_base.specs.declared.seq.Pair.{Pair}
use Rattle.bt_rows.specs.Heads.{head_of}
use Rattle.bt_rows.specs.Orders.{before_by}
use Rattle.bt_rows.specs.Rules.{column as column_key}
use Rattle.bt_rows.specs.Standing.{TreeStands, tree_pairs}
use Rattle.tc_hash.specs.Standing.{StandsWith}
use Rattle.tc_model.specs.Contents.{Contents, Indexes, Rows, table}
use Rattle.tc_model.specs.Texts.{is_among, not_empty}
use Rattle.tc_model.specs.Well.{AreRows}
use Rattle.tc_model.specs.declared.query.IndexKind.{IndexKind}
use Rattle.tc_model.specs.declared.query.IndexKind.TheVariants as kinds
use Rattle.td_index.specs.Entries.{AreOwed}
use Rattle.tc_table.specs.Parts.{AreSpelled, parts_of}
use Rattle.tc_table.specs.Sides.{asks_decimal}

-- a file that may have an index
abbrev pub IsIndexPlace : ℕ → Type 0
IsIndexPlace n = (3 ≤ n) × (n ≤ 18)

-- its own files
abbrev pub IsTableFile : ℕ → Type 0
IsTableFile n = (n ≡ 0) ⊎ IsIndexPlace n

-- the files that may have an index, in ascending number
abbrev pub index_files : List ℕ
index_files = 3 ∷ 4 ∷ 5 ∷ 6 ∷ 7 ∷ 8 ∷ 9 ∷ 10 ∷ 11 ∷ 12 ∷ 13 ∷ 14 ∷ 15 ∷ 16 ∷ 17 ∷ 18 ∷ []

-- ---- the rows

-- the bytes are a hash file of tables whose values are the bytes of these rows
pub record IsRowsFile (bytes : List ℕ) (rows : Rows) : Type 0 where
  pub records : Map
  pub region : List ℕ
  pub file : StandsWith 3 bytes records region
  pub spelled : AreSpelled records rows
  pub are : AreRows rows

-- ---- an index

abbrev pub type_code : IndexKind → ℕ
type_code kinds.Lexical = 0
type_code kinds.Decimal = 1
type_code kinds.Token = 2

-- the record `column`: the type and the column's name
abbrev pub column_bytes : IndexKind → List ℕ → List ℕ
column_bytes kind name = type_code kind ∷ name

-- the order byte of a type's tree
abbrev pub order_code : IndexKind → ℕ
order_code kinds.Lexical = 0
order_code kinds.Decimal = 1
order_code kinds.Token = 0

-- the bytes are an index file of that type and column, whose tree has these pairs
pub record IsIndexFile (bytes : List ℕ) (kind : IndexKind) (name : List ℕ) (ps : List Pair) : Type 0 where
  pub records : Map
  pub region : List ℕ
  pub file : StandsWith 1 bytes records region
  pub code : (head_of region).order ≡ order_code kind
  pub tree : TreeStands (before_by (order (asks_decimal kind))) (head_of region) true (get records)
  pub column : get records column_key ≡ Some (column_bytes kind name)
  pub named : not_empty name ≡ true
  pub are : ps ≡ tree_pairs tree

-- the file of an index of a column that no lower file has, with just the pairs of the rows
pub record IsIndexOf (rows : Rows) (seen : List (List ℕ)) (bytes : List ℕ) (kind : IndexKind) (name : List ℕ) : Type 0 where
  pub pairs : List Pair
  pub file : IsIndexFile bytes kind name pairs
  pub new : is_among name seen ≡ false
  pub owed : AreOwed (parts_of kind name rows) pairs

-- each of these files is empty or that of one of these indexes, of columns that are others than those seen
abbrev pub HaveIndexes : Rows → Files → List ℕ → List (List ℕ) → Indexes → Type 0
HaveIndexes rows files [] seen indexes = indexes ≡ empty
HaveIndexes rows files (f ∷ fs) seen indexes =
    ((files f ≡ []) × HaveIndexes rows files fs seen indexes)
    ⊎ ((kind : IndexKind) × (name : List ℕ) × (rest : Indexes) × IsIndexOf rows seen (files f) kind name × HaveIndexes rows files fs (seen ++ name ∷ []) rest × (indexes ≡ insert rest name kind))

-- ---- a table

pub record AreFilesOf (files : Files) (c : Contents) : Type 0 where
  pub rows : Rows
  pub indexes : Indexes
  pub is : c ≡ table rows indexes
  pub main : IsRowsFile (files 0) rows
  pub have : HaveIndexes rows files index_files [] indexes

-- each of these is empty
abbrev pub AreEmpty : Files → List ℕ → Type 0
AreEmpty files [] = Unit {0}
AreEmpty files (f ∷ fs) = (files f ≡ []) × AreEmpty files fs

-- where all are empty they stand for no rows and no indexes
pub record AreNone (files : Files) (c : Contents) : Type 0 where
  pub main : files 0 ≡ []
  pub indexes : AreEmpty files index_files
  pub is : c ≡ table empty empty

abbrev pub Reopens : Files → Contents → Type 0
Reopens files c = AreNone files c ⊎ AreFilesOf files c
