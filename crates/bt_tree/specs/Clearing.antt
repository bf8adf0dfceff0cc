-- A tree whose pairs all go.
use Rattle.std.specs.Prelude.{◌≡◌, ◌⊎◌, ℕ, List, [], ◌∷◌, Option, None, Some}
use Rattle.std.specs.FinMap.{empty, insert}
use Rattle.tc_base.specs.Maps.{Map}
use Rattle.tc_base.specs.declared.kind.Mode.TheVariants.{Over}
use Rattle.tc_base.specs.declared.seq.Pair.{Pair}
use Rattle.tc_space.specs.Frames.{Keeps}
use Rattle.tc_space.specs.Stores.{FullPutIn}
use Rattle.tc_space.specs.declared.records.Records.{Ghosts as Stores}
use Rattle.tc_space.specs.declared.space.Space.{Ghosts}
use Rattle.bt_page.specs.Keys.{key_of}
use Rattle.bt_page.specs.Pages.{leaf_bytes}
use Rattle.bt_rows.specs.declared.head.TreeHead.{TreeHead}
use Rattle.bt_rows.specs.Pages.{PageMap}
use Rattle.bt_rows.specs.Rules.{column as column_key}
use Rattle.bt_cache.specs.Effects.{SameStore, WritesBeside}
use Rattle.bt_cache.specs.Held.{Holds}
use Rattle.bt_ways.specs.Removals.{no_items}
use Rattle.bt_tree.specs.declared.tree.Tree.{Tree}

-- with the record `column`, if there is to be one
abbrev pub with_column : Option (List ℕ) → Map → Map
with_column None m = m
with_column (Some bytes) m = insert m column_key bytes

-- that record as a pair
abbrev pub column_pairs : Option (List ℕ) → List Pair
column_pairs None = []
column_pairs (Some bytes) = record { key = column_key; value = bytes } ∷ []

-- where an empty store that has nothing in its file was given it, it has nothing else there
abbrev pub FillsColumn : {S V : Type 0} → Ghosts S → Stores V S → Option (List ℕ) → V → V → S → Type 0
FillsColumn s R column v w old = Holds s R v old empty → R.filled v [] → R.filled w (column_pairs column)

abbrev pub no_pages : PageMap
no_pages id = None

-- the numbers of a tree whose first leaf alone stays, as its root
abbrev pub bared : TreeHead → TreeHead
bared h = record h { root = h.first; last = h.first; pairs = 0 }

-- ---- when the store has no room

-- a store had no room for the record `column`, which it was to have
abbrev pub LacksColumn : {S V : Type 0} → Ghosts S → Stores V S → Option (List ℕ) → V → S → S → Type 0
LacksColumn s R column v old new = (bytes : List ℕ) × (column ≡ Some bytes) × FullPutIn s R.file_of R.holds R.lacks Over column_key bytes v old new

-- the first records of a store that was emptied: `column`, and behind it a leaf with no keys under the id of the first leaf
abbrev pub IsFirstRecord : {V O : Type 0} → Tree V O → Map → List Pair → List ℕ → List ℕ → Type 0
IsFirstRecord t m ps key bytes = ((m ≡ empty) × (ps ≡ []) × (key ≡ column_key) × (t.column ≡ Some bytes)) ⊎ ((m ≡ with_column t.column empty) × (ps ≡ column_pairs t.column) × (key ≡ key_of t.head.first) × (bytes ≡ leaf_bytes no_items))

-- the store, as it was at some moment since, held no more than stands in front of such a record, with nothing else in its file, and had no room for it, as the space stands
pub record LacksBare {S V O : Type 0} (s : Ghosts S) (R : Stores V S) (t : Tree V O) (old new : S) : Type 0 where
  pub store : V
  pub moment : S
  pub made : SameStore R t.store store
  pub since : Keeps s old moment
  pub until : Keeps s moment new
  pub held : Map
  pub pairs : List Pair
  pub key : List ℕ
  pub bytes : List ℕ
  pub first : IsFirstRecord t held pairs key bytes
  pub holds : s.tells → Holds s R store moment held
  pub filled : s.tells → R.filled store pairs
  pub by : FullPutIn s R.file_of R.holds R.lacks Over key bytes store moment new

module _ {S V O : Type 0} (s : Ghosts S) (R : Stores V S) where
  -- or the undo log is full
  abbrev pub LacksCleared : Tree V O → S → S → Type 0
  LacksCleared t old new = LacksBare s R t old new ⊎ (s.tells → s.log_full new)

  -- the store holds nothing but `column`, and no page is in memory
  abbrev pub Strips : Tree V O → Tree V O → S → S → Type 0
  Strips t u old new = WritesBeside s R (λ m. with_column t.column empty) t.cache u.cache t.store u.store old new

  -- and nothing else is in its file
  abbrev pub StripsFile : Tree V O → Tree V O → Type 0
  StripsFile t u = s.tells → R.filled u.store (column_pairs t.column)
