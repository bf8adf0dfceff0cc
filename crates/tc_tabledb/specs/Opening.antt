-- The first rule that the files of a table break.
use Rattle.std.specs.Prelude.{◌≡◌, ◌≢◌, ◌⊎◌, ℕ, ◌==◌, Bool, true, false, List, [], ◌∷◌, ◌++◌, Some}
use Rattle.std.specs.FinMap.{get}
use Rattle.tc_base.specs.Files.{Files}
use Rattle.tc_base.specs.Maps.{Map}
use Rattle.tc_base.specs.Orders.{order}
use Rattle.tc_base.specs.declared.kind.Kind.{Kind}
use Rattle.tc_base.specs.declared.kind.Kind.TheVariants as kind
use Rattle.tc_base.specs.declared.kind.Rule.{Rule}
use Rattle.tc_base.specs.declared.seq.Pair.{Pair}
use Rattle.hf_tree.specs.Rules.{rule_l}
use Rattle.bt_check.specs.Verdicts.{IsFirstBroken}
use Rattle.bt_rows.specs.Heads.{head_of}
use Rattle.bt_rows.specs.Orders.{before_by}
use Rattle.bt_rows.specs.Rules.{column as column_key}
use Rattle.bt_rows.specs.Standing.{TreeStands}
use Rattle.tc_hash.specs.Opening.{IsBroken}
use Rattle.tc_hash.specs.Standing.{StandsWith}
use Rattle.tc_model.specs.Contents.{Rows}
use Rattle.tc_model.specs.Texts.{is_among, not_empty}
use Rattle.tc_model.specs.declared.query.IndexKind.{IndexKind}
use Rattle.td_index.specs.Entries.{AreOwed}
use Rattle.tc_table.specs.Opening.{JudgesRows}
use Rattle.tc_table.specs.Parts.{parts_of}
use Rattle.tc_tabledb.specs.Files.{IsIndexFile, IsIndexOf, IsRowsFile, column_bytes, index_files, order_code}

-- the rules of tables: each value is a row; an index file names a type, the tree's order and a new column; its pairs are those of the rows
abbrev pub rule_c : ℕ → Rule
rule_c number = record { letter = 67; number = number }

-- ---- an index file

-- the order that a region tells; another byte than 0 and 1 is a broken rule in either
abbrev pub tells_numbers : List ℕ → Bool
tells_numbers region = (head_of region).order == 1

-- a hash file of trees whose pages keep all rules
pub record IsTreeFile (bytes : List ℕ) (records : Map) (region : List ℕ) : Type 0 where
  pub file : StandsWith 1 bytes records region
  pub tree : TreeStands (before_by (order (tells_numbers region))) (head_of region) true (get records)

-- its record `column` is that of a type of the tree's order and of a column that isn't empty and that no lower file has
pub record IsNamed (records : Map) (region : List ℕ) (seen : List (List ℕ)) (kind : IndexKind) (name : List ℕ) : Type 0 where
  pub is : get records column_key ≡ Some (column_bytes kind name)
  pub order : (head_of region).order ≡ order_code kind
  pub some : not_empty name ≡ true
  pub new : is_among name seen ≡ false

-- a rule of hash files is broken, else one of trees, else the name, else the pairs
pub data BreaksIndex (rows : Rows) (seen : List (List ℕ)) (bytes : List ℕ) : Rule → Type 0 where
  in_file : (rule : Rule) → IsBroken 1 bytes rule → BreaksIndex rows seen bytes rule
  in_tree : (records : Map) (region : List ℕ) (rule : Rule) → StandsWith 1 bytes records region → IsFirstBroken (before_by (order (tells_numbers region))) (head_of region) true (get records) rule → BreaksIndex rows seen bytes rule
  no_name : (records : Map) (region : List ℕ) → IsTreeFile bytes records region → ((kind : IndexKind) (name : List ℕ) → IsNamed records region seen kind name → ⊥) → BreaksIndex rows seen bytes (rule_c 2)
  other_pairs : (kind : IndexKind) (name : List ℕ) (ps : List Pair) → IsIndexFile bytes kind name ps → is_among name seen ≡ false → (AreOwed (parts_of kind name rows) ps → ⊥) → BreaksIndex rows seen bytes (rule_c 3)

-- the first of these files that breaks a rule, each file's rules before the next file's
abbrev pub BreaksFrom : Rows → Files → List ℕ → List (List ℕ) → ℕ → Rule → Type 0
BreaksFrom rows files [] seen file rule = ⊥
BreaksFrom rows files (f ∷ fs) seen file rule =
    ((file ≡ f) × (files f ≢ []) × BreaksIndex rows seen (files f) rule)
    ⊎ (((files f ≡ []) × BreaksFrom rows files fs seen file rule)
    ⊎ ((kind : IndexKind) × (name : List ℕ) × IsIndexOf rows seen (files f) kind name × BreaksFrom rows files fs (seen ++ name ∷ []) file rule))

-- ---- a table

-- the first of these files that isn't empty
abbrev pub IsLowest : Files → List ℕ → ℕ → Type 0
IsLowest files [] file = ⊥
IsLowest files (f ∷ fs) file = ((file ≡ f) × (files f ≢ [])) ⊎ ((files f ≡ []) × IsLowest files fs file)

-- beside an empty main file no index file may have anything
abbrev pub BreaksNew : Files → ℕ → Rule → Type 0
BreaksNew files file rule = (rule ≡ rule_c 2) × IsLowest files index_files file

-- a rule of hash files in file 0, else a value that is no row, else a rule of an index file
pub data BreaksTable (files : Files) : ℕ → Rule → Type 0 where
  unmade : (file : ℕ) (rule : Rule) → files 0 ≡ [] → BreaksNew files file rule → BreaksTable files file rule
  in_main : (rule : Rule) → files 0 ≢ [] → IsBroken 3 (files 0) rule → BreaksTable files 0 rule
  no_row : (records : Map) (region : List ℕ) → StandsWith 3 (files 0) records region → JudgesRows records false → BreaksTable files 0 (rule_c 1)
  in_index : (rows : Rows) (file : ℕ) (rule : Rule) → IsRowsFile (files 0) rows → BreaksFrom rows files index_files [] file rule → BreaksTable files file rule

-- no file is opened as another kind: its head would have to be another
abbrev pub BreaksAs : Kind → Files → ℕ → Rule → Type 0
BreaksAs kind.Table files file rule = BreaksTable files file rule
BreaksAs _ files file rule = (file ≡ 0) × (rule ≡ rule_l 1)
