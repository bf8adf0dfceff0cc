-- The files of a table, opened one after the other.
use Rattle.std.specs.Prelude.{◌≡◌, ◌≢◌, ◌⊎◌, ℕ, true, false, List, [], ◌∷◌, ◌++◌, Option, Some, None}
use Rattle.std.specs.FinMap.{get, keys}
use Rattle.tc_base.specs.Maps.{Map}
use Rattle.tc_base.specs.Orders.{order}
use Rattle.tc_base.specs.declared.kind.Rule.{Rule}
use Rattle.tc_base.specs.declared.seq.Pair.{Pair}
use Rattle.tc_space.specs.declared.errors.OpenErr.{OpenErr}
use Rattle.tc_space.specs.declared.multi.Multi as multi
use Rattle.tc_space.specs.declared.records.Records as records
use Rattle.tc_space.specs.declared.space.Space.{Ghosts}
use Rattle.bt_check.specs.Verdicts.{Breaks}
use Rattle.bt_rows.specs.Heads.{head_of}
use Rattle.bt_rows.specs.Orders.{Before, before_by}
use Rattle.bt_rows.specs.Rules.{column as column_key}
use Rattle.bt_rows.specs.Standing.{TreeStands, tree_pairs}
use Rattle.tc_hash.specs.declared.hash.Hash.{Hash}
use Rattle.tc_hash.specs.Keeping.{Means}
use Rattle.tc_model.specs.Contents.{Rows}
use Rattle.tc_model.specs.Texts.{is_among, not_empty}
use Rattle.tc_model.specs.declared.query.IndexKind.{IndexKind}
use Rattle.td_index.specs.Checks.{StaysRows}
use Rattle.tc_table.specs.Opening.{TreeHolds}
use Rattle.tc_table.specs.Sides.{IsAway, TreeReady, asks_decimal, files as side_files, is_decimal, name_of, tree_file, tree_made}
use Rattle.tc_table.specs.Tables.{Holds}
use Rattle.tc_table.specs.declared.side.Side.{Side}
use Rattle.tc_table.specs.declared.side.Sorted.{Sorted}
use Rattle.tc_table.specs.declared.table.Table.{Table}
use Rattle.tc_tabledb.specs.declared.opening.Named.{Named}
use Rattle.tc_tabledb.specs.Files.{HaveIndexes, IsIndexFile, IsIndexOf, IsIndexPlace, IsRowsFile, column_bytes, order_code}
use Rattle.tc_tabledb.specs.Holding.{AllMade, AreDistinct, IsMade, indexes_of, names}
use Rattle.tc_tabledb.specs.Opening.{BreaksFrom, BreaksIndex, IsNamed, tells_numbers}

-- each of these may have an index
abbrev pub ArePlaces : List ℕ → Type 0
ArePlaces [] = Unit {0}
ArePlaces (f ∷ fs) = IsIndexPlace f × ArePlaces fs

-- it is one of these
abbrev pub IsAmong : ℕ → List ℕ → Type 0
IsAmong f [] = ⊥
IsAmong f (g ∷ gs) = (f ≡ g) ⊎ IsAmong f gs

-- no index has one of these files, and none comes twice
abbrev pub AreFree : {S L OL D OD : Type 0} → multi.Ghosts L S OL → multi.Ghosts D S OD → List (Side L D) → List ℕ → Type 0
AreFree l d xs [] = Unit {0}
AreFree l d xs (f ∷ fs) = IsAway f (side_files l d xs) × (IsAway f fs × AreFree l d xs fs)

module _ {S R L OL D OD : Type 0} (s : Ghosts S) (r : records.Ghosts R S) (l : multi.Ghosts L S OL) (d : multi.Ghosts D S OD) where
  -- the rows of file 0 were opened, and these are their primary keys
  pub record OpensMain (t : Table R L D) (ks : List (List ℕ)) (old new : S) : Type 0 where
    pub file : r.file_of t.rows ≡ 0
    pub sort : r.sort t.rows ≡ 3
    pub none : t.sides.items ≡ []
    pub holds : s.tells → (rows : Rows) → IsRowsFile (s.now old 0) rows → Holds s r l d t new rows × (ks ≡ keys rows)
    pub some : s.tells → (rows : Rows) × IsRowsFile (s.now old 0) rows

  -- the rows are held, and these are their primary keys
  pub record IsListed (t : Table R L D) (ks : List (List ℕ)) (space : S) : Type 0 where
    pub file : r.file_of t.rows ≡ 0
    pub sound : s.sound space
    pub held : s.tells → (rows : Rows) × Holds s r l d t space rows × (ks ≡ keys rows)

  -- an index file was opened, of a column that no lower one has; its pairs are those of a tree of the type's order
  pub record OpensSide (file : ℕ) (seen : List (List ℕ)) (x : Side L D) (old new : S) : Type 0 where
    pub ready : TreeReady s l d x.tree new
    pub file_is : tree_file l d x.tree ≡ file
    pub order : s.tells → is_decimal x.tree ≡ asks_decimal x.kind
    pub made : s.tells → IsMade r l d x
    pub first : s.tells → is_among (name_of x.tree) seen ≡ false
    pub pairs : s.tells → (ps : List Pair) → IsIndexFile (s.now old file) x.kind (name_of x.tree) ps → TreeHolds s l d x.tree new ps
    pub some : s.tells → (ps : List Pair) × IsIndexFile (s.now old file) x.kind (name_of x.tree) ps

  -- behind the others the index of a file came in, with the pairs of the rows
  pub record TakesSide (file : ℕ) (t t' : Table R L D) (old new : S) : Type 0 where
    pub side : Side L D
    pub parted : t'.sides.items ≡ t.sides.items ++ side ∷ []
    pub rows : StaysRows r t.rows t'.rows
    pub file_is : tree_file l d side.tree ≡ file
    pub made : s.tells → IsMade r l d side
    pub first : s.tells → is_among (name_of side.tree) (names t.sides.items) ≡ false
    pub holds : (m : Rows) → Holds s r l d t old m → Holds s r l d t' new m
    pub index : (m : Rows) → Holds s r l d t old m → IsIndexOf m (names t.sides.items) (s.now old file) side.kind (name_of side.tree)

  -- or the file is empty
  abbrev pub OpensFile : ℕ → Table R L D → Table R L D → S → S → Type 0
  OpensFile file t t' old new = ((s.tells → s.now old file ≡ []) × (t' ≡ t)) ⊎ TakesSide file t t' old new

  -- so did those of these files, in their order
  pub record OpensSides (fs : List ℕ) (t t' : Table R L D) (old new : S) : Type 0 where
    pub more : List (Side L D)
    pub parted : t'.sides.items ≡ t.sides.items ++ more
    pub rows : StaysRows r t.rows t'.rows
    pub made : s.tells → AllMade r l d more
    pub distinct : s.tells → AreDistinct (names t.sides.items) → AreDistinct (names t'.sides.items)
    pub holds : (m : Rows) → Holds s r l d t old m → Holds s r l d t' new m
    pub have : (m : Rows) → Holds s r l d t old m → HaveIndexes m (s.now old) fs (names t.sides.items) (indexes_of more)
    pub within : (f : ℕ) → IsAway f fs → IsAway f (side_files l d more)
    pub rest : s.tells → (f : ℕ) → IsAmong f fs → IsAway f (side_files l d more) → s.now old f ≡ []

-- the rule that an index file breaks first, where these are the rows that are held
pub record BreaksSide {S R L OL D OD : Type 0} (s : Ghosts S) (r : records.Ghosts R S) (l : multi.Ghosts L S OL) (d : multi.Ghosts D S OD) (file : ℕ) (t : Table R L D) (space : S) (rule : Rule) : Type 0 where
  pub some : s.now space file ≢ []
  pub breaks : (rows : Rows) → Holds s r l d t space rows → BreaksIndex rows (names t.sides.items) (s.now space file) rule

-- and it is that file which is named
abbrev pub BreaksHere : {S R L OL D OD : Type 0} → Ghosts S → records.Ghosts R S → multi.Ghosts L S OL → multi.Ghosts D S OD → ℕ → Table R L D → S → ℕ → Rule → Type 0
BreaksHere s r l d file t space f rule = (f ≡ file) × (s.tells → BreaksSide s r l d file t space rule)

-- ---- the record `column`

-- it is that of this type and name, whose tree has this order, which isn't empty and isn't seen
pub record IsNamedBy (bytes : List ℕ) (order : ℕ) (seen : List (List ℕ)) (kind : IndexKind) (name : List ℕ) : Type 0 where
  pub is : bytes ≡ column_bytes kind name
  pub fits : order ≡ order_code kind
  pub some : not_empty name ≡ true
  pub new : is_among name seen ≡ false

-- they may be those of an index
pub record IsNewName (order : ℕ) (seen : List (List ℕ)) (kind : IndexKind) (name : List ℕ) : Type 0 where
  pub fits : order ≡ order_code kind
  pub some : not_empty name ≡ true
  pub new : is_among name seen ≡ false

-- it is none such
abbrev pub NamesNone : List ℕ → ℕ → List (List ℕ) → Type 0
NamesNone bytes order seen = (kind : IndexKind) (name : List ℕ) → IsNamedBy bytes order seen kind name → ⊥

-- that of a map, under a region that tells an order; nothing where it is none such, or isn't there
abbrev pub NamesBy : Map → List ℕ → List (List ℕ) → Option Named → Type 0
NamesBy m region seen (Some x) = IsNamed m region seen x.kind x.name
NamesBy m region seen None = (kind : IndexKind) (name : List ℕ) → IsNamed m region seen kind name → ⊥

-- ---- the tree

module _ {S : Type 0} (s : Ghosts S) where
  -- a hash file of trees is open in a file that may have an index
  pub record CanOpenIndex (h : Hash S) (space : S) : Type 0 where
    pub sound : s.sound space
    pub place : IsIndexPlace h.body.file
    pub kind : h.body.head.kind ≡ 1
    pub held : s.tells → (m : Map) × Means s h space m

  abbrev pub told_order : Hash S → Before
  told_order h = before_by (order (tells_numbers h.region))

  -- a rule that is named is the first of trees that what is held breaks
  abbrev pub BreaksTree : Hash S → S → OpenErr → Type 0
  BreaksTree h space e = Breaks (told_order h) (head_of h.region) true h.body.file (Means s h space) e

  module _ {R L OL D OD : Type 0} (r : records.Ghosts R S) (l : multi.Ghosts L S OL) (d : multi.Ghosts D S OD) where
    -- the tree of whatever was held is open in the order that the region tells, in its file and under that name
    pub record OpensTree (h : Hash S) (name : List ℕ) (x : Sorted L D) (old new : S) : Type 0 where
      pub ready : TreeReady s l d x new
      pub name_is : name_of x ≡ name
      pub file_is : tree_file l d x ≡ h.body.file
      pub order : is_decimal x ≡ tells_numbers h.region
      pub sort : (tree_made l d x).sort ≡ 1
      pub code : (tree_made l d x).code ≡ (head_of h.region).order
      pub column : (m : Map) → Means s h old m → (tree_made l d x).column ≡ get m column_key
      pub opens : (m : Map) → Means s h old m → (t : TreeStands (told_order h) (head_of h.region) true (get m)) × TreeHolds s l d x new (tree_pairs t)

-- the rules that are looked at before the pairs of an index are
pub record BreaksBefore (seen : List (List ℕ)) (bytes : List ℕ) (rule : Rule) : Type 0 where
  pub breaks : (rows : Rows) → BreaksIndex rows seen bytes rule

-- the first of these files that breaks a rule breaks this one
pub record BreaksSome {S R L OL D OD : Type 0} (s : Ghosts S) (r : records.Ghosts R S) (l : multi.Ghosts L S OL) (d : multi.Ghosts D S OD) (fs : List ℕ) (file : ℕ) (t : Table R L D) (space : S) (rule : Rule) : Type 0 where
  pub breaks : (rows : Rows) → Holds s r l d t space rows → BreaksFrom rows (s.now space) fs (names t.sides.items) file rule
