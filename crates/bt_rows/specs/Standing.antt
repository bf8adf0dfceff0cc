-- When records are a tree, and the pairs that it holds.
use Rattle.std.specs.Prelude.{ℕ, List, [], ◌∷◌, Bool}
use Rattle.tc_base.specs.declared.seq.Pair.{Pair}
use Rattle.bt_rows.specs.declared.head.TreeHead.{TreeHead}
use Rattle.bt_rows.specs.declared.page.LeafAt.{LeafAt}
use Rattle.bt_rows.specs.Orders.{Before}
use Rattle.bt_rows.specs.Pages.{Map, PageMap, AreHeld}
use Rattle.bt_rows.specs.Rows.{root_slot, leaves_in}
use Rattle.bt_rows.specs.Rules.{B1, B2, B4, B5, B6, B7, B8, IsReached, pairs_of}

-- the rules up to B5, of pages alone
pub record PagesStand (h : TreeHead) (index : Bool) (m : Map) : Type 0 where
  pub head : B1 h
  pub keys : B2 h index m
  pub pages : PageMap
  pub held : AreHeld h m pages
  pub depth : ℕ
  pub reach : IsReached pages h.root depth
  pub even : B4 pages h.root
  pub limits : B5 h pages

abbrev pub leaves_of : {h : TreeHead} {index : Bool} {m : Map} → PagesStand h index m → List LeafAt
leaves_of {h} s = leaves_in s.pages s.depth (root_slot h.root ∷ [])

-- all rules
pub record TreeStands (before : Before) (h : TreeHead) (index : Bool) (m : Map) : Type 0 where
  pub stand : PagesStand h index m
  pub order : B6 before (leaves_of stand)
  pub links : B7 h (leaves_of stand)
  pub count : B8 h (leaves_of stand)

-- what the tree holds
abbrev pub tree_pairs : {before : Before} {h : TreeHead} {index : Bool} {m : Map} → TreeStands before h index m → List Pair
tree_pairs t = pairs_of (leaves_of t.stand)
