-- When records are a tree of so many rows, and the pairs that it holds.
use Rattle.std.specs.Prelude.{◌≡◌, ℕ, suc, List, length, Option, is_some}
use Rattle.tc_base.specs.declared.seq.Pair.{Pair}
use Rattle.bt_rows.specs.declared.head.TreeHead.{TreeHead}
use Rattle.bt_rows.specs.declared.page.LeafAt.{LeafAt}
use Rattle.bt_rows.specs.Orders.{Before}
use Rattle.bt_rows.specs.Pages.{Map, PageMap, AreHeld}
use Rattle.bt_rows.specs.Rules.{B1, B2, B5, B7, B8, column as column_key, pairs_of}
use Rattle.bt_rows.specs.Levels.{NodeAt, Stands}

-- nothing but pages is held, and beside them the record `column`, if there is one, with these bytes
pub record HasKeys (h : TreeHead) (column : Option (List ℕ)) (m : Map) : Type 0 where
  pub rule : B2 h (is_some column) m
  pub has : m column_key ≡ column

-- the pages that are held stand in so many rows, the row of leaves among them
pub record IsTree (before : Before) (h : TreeHead) (height : ℕ) (m : Map) : Type 0 where
  pub head : B1 h
  pub pages : PageMap
  pub held : AreHeld h m pages
  pub leaves : List LeafAt
  pub levels : List (List NodeAt)
  pub stands : Stands before pages h.root leaves levels
  pub high : height ≡ suc (length levels)

-- they keep all rules, and stand for these pairs
pub record HoldsPairs (before : Before) (h : TreeHead) (height : ℕ) (column : Option (List ℕ)) (m : Map) (ps : List Pair) : Type 0 where
  pub tree : IsTree before h height m
  pub keys : HasKeys h column m
  pub limits : B5 h tree.pages
  pub links : B7 h tree.leaves
  pub count : B8 h tree.leaves
  pub are : ps ≡ pairs_of tree.leaves
