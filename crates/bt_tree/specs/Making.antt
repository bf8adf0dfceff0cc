-- A tree made anew.
use Rattle.std.specs.Prelude.{◌≡◌, ◌⊎◌, ℕ, ◌≤◌, List, [], Some, false}
use Rattle.std.specs.FinMap.{get}
use Rattle.tc_base.specs.Maps.{Map}
use Rattle.tc_base.specs.declared.order.Order.{Ghosts as Orders}
use Rattle.tc_space.specs.Frames.{OnlyReads, Others}
use Rattle.tc_space.specs.Stores.{Only}
use Rattle.tc_space.specs.declared.records.Records.{Ghosts as Stores}
use Rattle.tc_space.specs.declared.space.Space.{Ghosts}
use Rattle.bt_page.specs.Limits.{IsLimit}
use Rattle.bt_page.specs.Pages.{leaf_bytes}
use Rattle.bt_page.specs.declared.page.Leaf.{Leaf}
use Rattle.bt_rows.specs.Rules.{column as column_key}
use Rattle.bt_cache.specs.Effects.{LacksKey, SameStore}
use Rattle.bt_cache.specs.Held.{Holds}
use Rattle.bt_check.specs.Looks.{Looks}
use Rattle.bt_tree.specs.declared.tree.Tree.{Tree}
use Rattle.bt_tree.specs.Meaning.{Means}
use Rattle.bt_tree.specs.Numbers.{lone_head}

-- what a new tree may have
pub record MayBe (leaf_limit node_limit code : ℕ) : Type 0 where
  pub leaf : IsLimit leaf_limit
  pub node : IsLimit node_limit
  pub order : code ≤ 1

-- a map of nothing, or of the record `column` alone
abbrev pub IsBare : Map → Type 0
IsBare m = (key bytes : List ℕ) → get m key ≡ Some bytes → key ≡ column_key

-- so is whatever map a store holds
abbrev pub HoldsBare : {S V : Type 0} → Ghosts S → Stores V S → V → S → Type 0
HoldsBare s R v space = (m : Map) → Holds s R v space m → IsBare m

-- a leaf alone and with no keys
abbrev pub lone_leaf : Leaf
lone_leaf = record { prev = 0; next = 0; items = [] }

-- once it was looked at, the store had no room for this leaf as the page of id 1
pub record LacksFirst {S V : Type 0} (s : Ghosts S) (R : Stores V S) (v : V) (old new : S) : Type 0 where
  pub store : V
  pub moment : S
  pub looks : Looks s R v store old moment
  pub by : LacksKey s R 1 (leaf_bytes lone_leaf) store moment new

-- it holds no pairs, in one leaf of id 1 under the numbers of such a tree, is in a store's file, and tells the record `column` that the store had
pub record IsNew {S V O : Type 0} (s : Ghosts S) (R : Stores V S) (o : Orders O) (v : V) (leaf_limit node_limit : ℕ) (t : Tree V O) (old new : S) : Type 0 where
  pub sound : s.sound new
  pub means : s.tells → Means s R o t new []
  pub column_is : (m : Map) → Holds s R v old m → t.column ≡ get m column_key
  pub others : Others s (Only (R.file_of v)) old new
  pub made : SameStore R v t.store
  pub head : t.head ≡ lone_head o.CODE leaf_limit node_limit
  pub height : t.height ≡ 1

-- the space may not be used any more, or nothing is written
abbrev pub IsRefused : {S : Type 0} → Ghosts S → S → S → Type 0
IsRefused s old new = (s.flag new ≡ false) ⊎ OnlyReads s old new
