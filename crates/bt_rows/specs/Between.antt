-- That keys stay between those of the entries above them, said of each page.
use Rattle.std.specs.Prelude.{◌≡◌, ◌↔◌, ℕ, zero, suc, List, [], ◌∷◌, ◌++◌, true, false, Option, Some, None, ⊤}
use Rattle.std.specs.List.{AllByRecursion}
use Rattle.bt_page.specs.declared.page.NodeEntry.{NodeEntry}
use Rattle.bt_page.specs.declared.page.Node.{Node}
use Rattle.bt_rows.specs.declared.page.Page.{Page}
use Rattle.bt_rows.specs.declared.page.Page.TheVariants.{Leaf as leaf_page, Node as node_page}
use Rattle.bt_rows.specs.Orders.{Before, IsOrder}
use Rattle.bt_rows.specs.Pages.{PageMap}
use Rattle.bt_rows.specs.declared.head.TreeHead.{TreeHead}
use Rattle.bt_rows.specs.Rows.{root_slot, leaves_in}
use Rattle.bt_rows.specs.Rules.{Ascends, IsReached, B4, B5, B6}

-- a page of a row, with the keys of the entries on the way to it, and of those right behind them
pub record Place : Type 0 where
  pub id : ℕ
  pub lows : List (List ℕ)
  pub highs : List (List ℕ)

abbrev pub root_place : ℕ → Place
root_place root = record { id = root; lows = []; highs = [] }

-- the key of the first entry, if there is one
abbrev pub next_key : List NodeEntry → List (List ℕ)
next_key [] = []
next_key (e ∷ es) = e.key ∷ []

abbrev pub entry_places : List (List ℕ) → List (List ℕ) → List NodeEntry → List Place
entry_places lows highs [] = []
entry_places lows highs (e ∷ es) = record { id = e.child; lows = e.key ∷ lows; highs = next_key es ++ highs } ∷ entry_places lows highs es

-- the heir is below the first entry, each entry below the next
abbrev pub node_places : Place → Node → List Place
node_places p n = record { id = n.heir; lows = p.lows; highs = next_key n.entries ++ p.highs } ∷ entry_places p.lows p.highs n.entries

abbrev pub placed : Place → Option Page → List Place
placed p None = []
placed p (Some (leaf_page l)) = []
placed p (Some (node_page n)) = node_places p n

abbrev pub below : PageMap → List Place → List Place
below pages [] = []
below pages (p ∷ ps) = placed p (pages p.id) ++ below pages ps

abbrev pub places : PageMap → ℕ → List Place → List Place
places pages zero ps = ps
places pages (suc k) ps = places pages k (below pages ps)

-- a key is at least each low and below each high
pub record IsBetween (before : Before) (p : Place) (key : List ℕ) : Type 0 where
  pub low : AllByRecursion (λ l. before key l ≡ false) p.lows
  pub high : AllByRecursion (λ h. before key h ≡ true) p.highs

abbrev pub KeysAscend : Before → List NodeEntry → Type 0
KeysAscend before [] = ⊤
KeysAscend before (e ∷ es) = AllByRecursion (λ f. before e.key f.key ≡ true) es × KeysAscend before es

abbrev pub PageFits : Before → Place → Option Page → Type 0
PageFits before p None = ⊤
PageFits before p (Some (leaf_page l)) = Ascends before l.items × AllByRecursion (λ x. IsBetween before p x.key) l.items
PageFits before p (Some (node_page n)) = KeysAscend before n.entries

abbrev pub EachFits : Before → PageMap → List Place → Type 0
EachFits before pages [] = ⊤
EachFits before pages (p ∷ ps) = PageFits before p (pages p.id) × EachFits before pages ps

-- in every row keys ascend in each page, and those of leaves stay between the keys above them
abbrev pub KeysFit : Before → PageMap → ℕ → Type 0
KeysFit before pages root = (k : ℕ) → EachFits before pages (places pages k (root_place root ∷ []))

-- where B1 to B5 hold, B6 says the same
abbrev pub OrderIsThatOfEntries : Type 0
OrderIsThatOfEntries =
    (before : Before) (h : TreeHead) (pages : PageMap) (depth : ℕ) → IsOrder before → IsReached pages h.root depth → B4 pages h.root → B5 h pages
    → B6 before (leaves_in pages depth (root_slot h.root ∷ [])) ↔ KeysFit before pages h.root
