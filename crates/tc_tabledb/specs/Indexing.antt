-- Indexes that are set, and taken away.
use Rattle.std.specs.Prelude.{◌≡◌, ◌⊎◌, ℕ, ◌<◌, ◌^◌, Bool, false, List, [], ◌∷◌, ◌++◌, Option, Some, None, option_map, if◌then◌else◌}
use Rattle.std.specs.FinMap.{empty, get, insert}
use Rattle.tc_base.specs.Texts.{is_text}
use Rattle.tc_space.specs.Frames.{Others}
use Rattle.tc_space.specs.Stores.{Only}
use Rattle.tc_space.specs.declared.multi.Multi as multi
use Rattle.tc_space.specs.declared.records.Records as records
use Rattle.tc_space.specs.declared.space.Space.{Ghosts}
use Rattle.bt_rows.specs.Rules.{column as column_key}
use Rattle.hf_head.specs.declared.head.Head.{Head}
use Rattle.tc_hash.specs.declared.hash.Hash.{Hash}
use Rattle.tc_hash.specs.Keeping.{Means, Turns}
use Rattle.tc_engine.specs.Changes.{Change}
use Rattle.tc_model.specs.Contents.{Contents, Indexes, Rows, table}
use Rattle.tc_model.specs.Meaning.{with_index}
use Rattle.tc_model.specs.declared.query.IndexKind.{IndexKind}
use Rattle.tc_table.specs.Sides.{IsAway, SideStands, TreeReady, files as side_files, name_of, tree_file, tree_made}
use Rattle.tc_table.specs.declared.side.Side.{Side}
use Rattle.tc_table.specs.declared.side.Sorted.{Sorted}
use Rattle.tc_tabledb.specs.Files.{IsIndexPlace, column_bytes}
use Rattle.tc_tabledb.specs.Filling.{Fills, IsIndexHead, LacksMade, index_numbers, is_same}
use Rattle.tc_tabledb.specs.Holding.{IsMade}

abbrev pub with_table : Rows → Option Indexes → Option Contents
with_table rows o = option_map (λ after. table rows after) o

-- a column has an index of that type, or none
abbrev pub indexed : List ℕ → IndexKind → Change
indexed name kind (table rows indexes) = with_table rows (with_index indexes name (Some kind))
indexed name kind _ = None

abbrev pub unindexed : List ℕ → Change
unindexed name (table rows indexes) = with_table rows (with_index indexes name None)
unindexed name _ = None

-- what is asked for: an index of a type, or none
abbrev pub given_index : List ℕ → Option IndexKind → Change
given_index name None = unindexed name
given_index name (Some kind) = indexed name kind

-- an index is there, and of that type
abbrev pub is_kind : Option IndexKind → IndexKind → Bool
is_kind None kind = false
is_kind (Some other) kind = is_same other kind

-- one more, however many there are
abbrev pub added : List ℕ → IndexKind → Change
added name kind (table rows indexes) = Some (table rows (insert indexes name kind))
added name kind _ = None

-- the type of the index of a column, if one of these is
abbrev pub kind_at : {L D : Type 0} → List ℕ → List (Side L D) → Option IndexKind
kind_at name [] = None
kind_at name (x ∷ xs) = if is_text (name_of x.tree) name then Some x.kind else kind_at name xs

-- no index has that file
abbrev pub IsFreePlace : {S L OL D OD : Type 0} → multi.Ghosts L S OL → multi.Ghosts D S OD → List (Side L D) → ℕ → Type 0
IsFreePlace l d xs file = IsAway file (side_files l d xs)

-- ---- an index as it is made

module _ {S L OL D OD : Type 0} (l : multi.Ghosts L S OL) (d : multi.Ghosts D S OD) where
  -- its file has the numbers of one that is made for an index, a leaf at most 128 keys, and a node at most 256 entries
  pub record IsUsual (x : Sorted L D) : Type 0 where
    pub numbers : (tree_made l d x).numbers ≡ index_numbers
    pub leaf : (tree_made l d x).leaf ≡ 128
    pub node : (tree_made l d x).node ≡ 256

  -- the last of these is an index of that type and column as it is made, in the lowest file that the others leave
  pub record EndsNew (kind : IndexKind) (name : List ℕ) (xs : List (Side L D)) : Type 0 where
    pub front : List (Side L D)
    pub side : Side L D
    pub parted : xs ≡ front ++ side ∷ []
    pub kind_is : side.kind ≡ kind
    pub name_is : name_of side.tree ≡ name
    pub usual : IsUsual side.tree
    pub place : IsIndexPlace (tree_file l d side.tree)
    pub free : IsFreePlace l d front (tree_file l d side.tree)
    pub lowest : (n : ℕ) → IsIndexPlace n → n < tree_file l d side.tree → IsFreePlace l d front n → ⊥

  -- the column had an index of that type before, or such a one came to the others
  abbrev pub IsSet : IndexKind → List ℕ → List (Side L D) → List (Side L D) → Type 0
  IsSet kind name old new = (kind_at name old ≡ Some kind) ⊎ EndsNew kind name new

  -- so it is of the type that is asked for, if one is
  abbrev pub IsSetAs : List ℕ → List (Side L D) → List (Side L D) → Option IndexKind → Type 0
  IsSetAs name old new wanted = (kind : IndexKind) → wanted ≡ Some kind → IsSet kind name old new

  -- so it is of that which a code asks for
  abbrev pub IsSetBy : List ℕ → List (Side L D) → List (Side L D) → Option (Option IndexKind) → Type 0
  IsSetBy name old new asked = (kind : IndexKind) → asked ≡ Some (Some kind) → IsSet kind name old new

-- ---- the file of an index that is made

module _ {S : Type 0} (s : Ghosts S) where
  -- a hash file is open as it was made for an index, and holds its record `column` alone
  pub record HoldsColumn (kind : IndexKind) (name : List ℕ) (h : Hash S) (space : S) : Type 0 where
    pub sound : s.sound space
    pub held : s.tells → Means s h space (insert empty column_key (column_bytes kind name))
    pub head : IsIndexHead h.body.head

  -- it was given the record, in its own file
  abbrev pub PutsColumn : List ℕ → Hash S → Hash S → S → S → Type 0
  PutsColumn bytes v v' old new = Turns s (λ m. insert m column_key bytes) v v' old new

  -- a file was made for an index, and other files stay
  pub record MakesFile (file : ℕ) (kind : IndexKind) (name : List ℕ) (h : Hash S) (old new : S) : Type 0 where
    pub column : HoldsColumn kind name h new
    pub file_is : h.body.file ≡ file
    pub others : Others s (Only file) old new

  -- the sections of a file for an index pass a limit, or what a head can name
  abbrev pub PassesSections : ℕ → Type 0
  PassesSections limit = (h : Head) × IsIndexHead h × ((limit < h.first) ⊎ (2 ^ 40 < h.first))

  -- the undo log is full, or so it is, or its first records had no room behind them
  abbrev pub LacksSide : ℕ → IndexKind → List ℕ → S → Type 0
  LacksSide file kind name new = s.log_full new ⊎ (PassesSections (s.limit new file) ⊎ (s.brought new × LacksMade (s.limit new file) (s.now new file) kind name))

  module _ {R L OL D OD : Type 0} (r : records.Ghosts R S) (l : multi.Ghosts L S OL) (d : multi.Ghosts D S OD) where
    -- an index of that type and column was made in a file, which has nothing
    pub record MakesSide (file : ℕ) (kind : IndexKind) (name : List ℕ) (x : Side L D) (old new : S) : Type 0 where
      pub sound : s.sound new
      pub ready : TreeReady s l d x.tree new
      pub none : s.tells → SideStands s l d x new empty
      pub kind_is : x.kind ≡ kind
      pub name_is : name_of x.tree ≡ name
      pub file_is : tree_file l d x.tree ≡ file
      pub made : s.tells → IsMade r l d x
      pub usual : IsUsual l d x.tree
      pub others : Others s (Only file) old new

  -- a limit is reached on the way from contents that have no index of that column and type to these with it
  abbrev pub FullAdded : List ℕ → IndexKind → S → Contents → Type 0
  FullAdded name kind new c = (rows : Rows) (indexes : Indexes) → c ≡ table rows indexes → (i : Indexes) → (get i name ≡ Some kind → ⊥) → Fills s new (table rows i) (table rows (insert indexes name kind))
