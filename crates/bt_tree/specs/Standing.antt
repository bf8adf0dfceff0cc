-- When a file stands for a list of pairs.
use Rattle.std.specs.Prelude.{◌≡◌, ℕ, List, ◌∷◌, ◌++◌, Option, is_some, replicate}
use Rattle.std.specs.FinMap.{get}
use Rattle.tc_base.specs.Endian.{le_bytes}
use Rattle.tc_base.specs.Maps.{Map}
use Rattle.tc_base.specs.declared.order.Order.{Ghosts as Orders}
use Rattle.tc_base.specs.declared.seq.Pair.{Pair}
use Rattle.tc_space.specs.declared.records.Records.{Ghosts as Stores}
use Rattle.bt_rows.specs.declared.head.TreeHead.{TreeHead}
use Rattle.bt_rows.specs.Heads.{head_of}
use Rattle.bt_rows.specs.Orders.{before_by}
use Rattle.bt_rows.specs.Rules.{column as column_key}
use Rattle.bt_rows.specs.Standing.{TreeStands, tree_pairs}
use Rattle.bt_check.specs.Walks.{IsHigh}

-- the region that tells these numbers, with zeros where none stands
unfoldable pub region_bytes : TreeHead → List ℕ
region_bytes h =
    (h.order ∷ replicate 7 0) ++ le_bytes 4 h.leaf_limit ++ le_bytes 4 h.node_limit
    ++ le_bytes 8 h.root ++ le_bytes 8 h.first ++ le_bytes 8 h.last ++ le_bytes 8 h.leaf_ids ++ le_bytes 8 h.node_ids ++ le_bytes 8 h.pairs
    ++ replicate 64 0

-- its bytes are a store's file of this type, whose head fixes these numbers and whose region tells those of the tree and nothing else, this order's byte among them, and whose records keep all rules of a tree under them,
-- in so many rows, beside the record `column`, if there is one, with these bytes
pub record FileStands {S V O : Type 0} (R : Stores V S) (o : Orders O) (sort : ℕ) (fixed : List ℕ) (h : TreeHead) (height : ℕ) (column : Option (List ℕ)) (bytes : List ℕ) (ps : List Pair) : Type 0 where
  pub records : Map
  pub region : List ℕ
  pub numbers : head_of region ≡ h
  pub spelled : region ≡ region_bytes h
  pub order : h.order ≡ o.CODE
  pub file : R.stands sort fixed bytes records region
  pub tree : TreeStands (before_by o.cmp) h (is_some column) (get records)
  pub high : IsHigh tree.stand.pages h.root height
  pub has : get records column_key ≡ column
  pub are : ps ≡ tree_pairs tree
