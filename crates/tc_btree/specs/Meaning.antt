-- What a tree means as a list of pairs. `Stores V S` are the members of its store, `Orders O` those of its order, each as one.
use Rattle.std.specs.Prelude.{◌≡◌, ℕ, List, [], Bool, Option, Some, None}
use Rattle.tc_base.specs.declared.order.Order.{Ghosts as Orders}
use Rattle.tc_base.specs.declared.seq.Pair.{Pair}
use Rattle.tc_space.specs.Lists.{Made}
use Rattle.tc_space.specs.declared.records.Records.{Ghosts as Stores}
use Rattle.tc_space.specs.declared.space.Space.{Ghosts}
use Rattle.bt_page.specs.declared.page.Item.{Item}
use Rattle.bt_rows.specs.declared.head.TreeHead.{TreeHead}
use Rattle.bt_tree.specs.Making.{IsNew}
use Rattle.bt_tree.specs.Meaning.{HoldsIn, file_in}
use Rattle.bt_tree.specs.Opening.{IsOpened}
use Rattle.bt_tree.specs.Standing.{FileStands}
use Rattle.tc_btree.specs.declared.btree.Btree.{Btree}

-- its file is the tree's
abbrev pub file_list : {S V O : Type 0} → Stores V S → Btree V O → ℕ
file_list R b = file_in R b.tree

-- it holds what the tree does
abbrev pub holds_list : {S V O : Type 0} → Stores V S → Orders O → Btree V O → List ℕ → List Pair → Type 0
holds_list R o b bytes ps = HoldsIn R o b.tree bytes ps

-- the type of the store's file and the numbers that its head fixes, those that the tree tells, and the record `column`
abbrev pub made_of : {S V O : Type 0} → Stores V S → Btree V O → Made
made_of R b = record { sort = R.sort b.tree.store; numbers = R.numbers b.tree.store; code = b.tree.head.order; leaf = b.tree.head.leaf_limit; node = b.tree.head.node_limit; column = b.tree.column }

-- a file of these bytes is that of a tree which was made so
pub record ListStands {S V O : Type 0} (R : Stores V S) (o : Orders O) (made : Made) (bytes : List ℕ) (ps : List Pair) : Type 0 where
  pub head : TreeHead
  pub code_is : head.order ≡ made.code
  pub leaf_is : head.leaf_limit ≡ made.leaf
  pub node_is : head.node_limit ≡ made.node
  pub height : ℕ
  pub file : FileStands R o made.sort made.numbers head height made.column bytes ps

-- the values of an item, none where there is no item
abbrev pub item_values : Option Item → List (List ℕ)
item_values None = []
item_values (Some item) = item.values

module _ {S V O : Type 0} (s : Ghosts S) (R : Stores V S) (o : Orders O) where
  -- a list was made anew over a store, or opened in one
  abbrev pub MakesList : V → ℕ → ℕ → S → S → Btree V O → Type 0
  MakesList v leaf_limit node_limit old new b = IsNew s R o v leaf_limit node_limit b.tree old new

  abbrev pub OpensList : Bool → V → S → S → Btree V O → Type 0
  OpensList index v old new b = IsOpened s R o index v b.tree old new
