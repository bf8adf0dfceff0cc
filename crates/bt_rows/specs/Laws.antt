-- The rules of a tree file and the rows that its operations see say the same.
use Rattle.std.specs.Prelude.{◌≡◌, ℕ, suc, List, [], ◌∷◌, length, Bool}
use Rattle.std.specs.declared.cmp.Ordering.{Ordering}
use Rattle.std.specs.Cmp.{IsTotalOrder}
use Rattle.std.proofs.lemmas.Map.Lookups.{CmpEqualImpliesEq}
use Rattle.bt_rows.specs.declared.head.TreeHead.{TreeHead}
use Rattle.bt_rows.specs.Orders.{Before, IsOrder, before_by}
use Rattle.bt_rows.specs.Pages.{Map, PageMap, AreHeld}
use Rattle.bt_rows.specs.declared.page.LeafAt.{LeafAt}
use Rattle.bt_rows.specs.Rows.{root_slot, leaves_in}
use Rattle.bt_rows.specs.Rules.{B1, B2, B4, B6, B7, IsReached}
use Rattle.bt_rows.specs.Levels.{NodeAt, Stands}
use Rattle.bt_rows.specs.Standing.{TreeStands, tree_pairs}

-- pages that keep the rules are rows
abbrev pub RulesGiveRows : Type 0
RulesGiveRows =
    (before : Before) (h : TreeHead) (pages : PageMap) (depth : ℕ) → IsReached pages h.root depth → B4 pages h.root
    → B6 before (leaves_in pages depth (root_slot h.root ∷ [])) → B7 h (leaves_in pages depth (root_slot h.root ∷ []))
    → (levels : List (List NodeAt)) × Stands before pages h.root (leaves_in pages depth (root_slot h.root ∷ [])) levels

-- rows keep the rules
abbrev pub RowsGiveRules : Type 0
RowsGiveRules =
    (before : Before) (pages : PageMap) (root : ℕ) (leaves : List LeafAt) (levels : List (List NodeAt)) → Stands before pages root leaves levels
    → IsReached pages root (suc (length levels)) × B4 pages root × (leaves_in pages (suc (length levels)) (root_slot root ∷ []) ≡ leaves)

-- records that are pages hold these, and no others
abbrev pub RecordsGivePages : Type 0
RecordsGivePages =
    (h : TreeHead) (index : Bool) (m : Map) → B1 h → B2 h index m → (pages : PageMap) × AreHeld h m pages × ((other : PageMap) → AreHeld h m other → other ≡ pages)

-- records are no two trees of other pairs
abbrev pub RecordsGivePairs : Type 0
RecordsGivePairs =
    (before : Before) (h : TreeHead) (index : Bool) (m : Map) (s t : TreeStands before h index m) → tree_pairs s ≡ tree_pairs t

-- a total order that ties on equal keys alone, as that of the trait Order, is strict
abbrev pub OrdersAreStrict : Type 0
OrdersAreStrict = (cmp : List ℕ → List ℕ → Ordering) → IsTotalOrder cmp → CmpEqualImpliesEq cmp → IsOrder (before_by cmp)
