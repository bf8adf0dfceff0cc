-- The entries of each node ascend, since bounds do along the leaves.
use Rattle.std.proofs.Common.{◌≡◌, ℕ, List, [], ◌∷◌, ◌++◌, Bool, true, false, Option, Some, None, map, refl, sym, ap, ◌∙◌, subst}
use Rattle.std.specs.Prelude.{⊤}
use Rattle.std.specs.List.{AllByRecursion}
use Rattle.bt_page.specs.declared.page.NodeEntry.{NodeEntry}
use Rattle.bt_rows.specs.declared.page.LeafAt.{LeafAt}
use Rattle.bt_rows.specs.declared.page.Slot.{Slot}
use Rattle.bt_rows.specs.Between.{KeysAscend}
use Rattle.bt_rows.specs.Orders.{Before}
use Rattle.bt_rows.specs.Pages.{PageMap}
use Rattle.bt_rows.specs.Rows.{entry_slot}
use Rattle.bt_rows.specs.Rules.{BoundUnder, InOrder, IsBelow}
use Rattle.bt_rows.specs.Levels.{NodeAt, leaf_slot, node_slot, all_children, LeadsUp, Stands}
use Rattle.bt_ways.specs.Ways.{node_children}
use Rattle.bt_ways.proofs.Keys.{all_map, all_part}
use Rattle.bt_ways.proofs.Rows.{children-append}

-- each bound is under those behind it
abbrev BoundsRise : Before → List Slot → Type 0
BoundsRise before [] = ⊤
BoundsRise before (s ∷ ss) = AllByRecursion (λ t. BoundUnder before s.bound t.bound) ss × BoundsRise before ss

all_mapped : {X : Type 0} (P : X → Type 0) (Q : Slot → Type 0) (f : X → Slot) (xs : List X) → ((x : X) → P x → Q (f x)) → AllByRecursion P xs → AllByRecursion Q (map f xs)
all_mapped P Q f [] k h = tt
all_mapped P Q f (x ∷ xs) k h = (k x h.0, all_mapped P Q f xs k h.1)

rise_back : (before : Before) (xs ys : List Slot) → BoundsRise before (xs ++ ys) → BoundsRise before ys
rise_back before [] ys r = r
rise_back before (x ∷ xs) ys r = rise_back before xs ys r.1

rise_front : (before : Before) (xs ys : List Slot) → BoundsRise before (xs ++ ys) → BoundsRise before xs
rise_front before [] ys r = tt
rise_front before (x ∷ xs) ys r = ((all_part (λ t. BoundUnder before x.bound t.bound) xs ys r.0).0, rise_front before xs ys r.1)

leaves_rise : (before : Before) (ls : List LeafAt) → InOrder before ls → BoundsRise before (map leaf_slot ls)
leaves_rise before [] o = tt
leaves_rise before (l ∷ ls) o = (all_mapped (IsBelow before l) (λ t. BoundUnder before l.slot.bound t.bound) leaf_slot ls (λ m b. b.bounds) o.1, leaves_rise before ls o.2)

-- the bounds of a row of nodes stand among those of the row below
heads : (Q : Option (List ℕ) → Type 0) (L : List NodeAt) → AllByRecursion (λ t. Q t.bound) (all_children L) → AllByRecursion (λ t. Q t.bound) (map node_slot L)
heads Q [] h = tt
heads Q (n ∷ L) h = let parts = all_part (λ t. Q t.bound) (node_children n) (all_children L) h in (parts.0.0, heads Q L parts.1)

row_rises : (before : Before) (L : List NodeAt) → BoundsRise before (all_children L) → BoundsRise before (map node_slot L)
row_rises before [] r = tt
row_rises before (n ∷ L) r = (
  heads (λ b. BoundUnder before n.slot.bound b) L (all_part (λ t. BoundUnder before n.slot.bound t.bound) (map entry_slot n.node.entries) (all_children L) r.0).1,
  row_rises before L (rise_back before (node_children n) (all_children L) r),
)

entries_rise : (before : Before) (es : List NodeEntry) → BoundsRise before (map entry_slot es) → KeysAscend before es
entries_rise before [] r = tt
entries_rise before (e ∷ es) r = (under es r.0, entries_rise before es r.1)
  where
    under : (ds : List NodeEntry) → AllByRecursion (λ t. BoundUnder before (Some e.key) t.bound) (map entry_slot ds) → AllByRecursion (λ f. before e.key f.key ≡ true) ds
    under [] h = tt
    under (d ∷ ds) h = (h.0, under ds h.1)

node_rises : (before : Before) (root : ℕ) (above : List (List NodeAt)) (left : List NodeAt) (at : NodeAt) (right : List NodeAt) (under : List (List NodeAt)) (slots : List Slot)
    → LeadsUp root (above ++ (left ++ at ∷ right) ∷ under) slots → BoundsRise before slots → KeysAscend before at.node.entries
node_rises before root [] left at right under slots up r =
    let row : BoundsRise before (all_children left ++ all_children (at ∷ right)) = subst (λ (t : List Slot). BoundsRise before t) (up.0 ∙ children-append left (at ∷ right)) r in
    let here : BoundsRise before (node_children at) = rise_front before (node_children at) (all_children right) (rise_back before (all_children left) (all_children (at ∷ right)) row) in
    entries_rise before at.node.entries here.1
node_rises before root (L ∷ above) left at right under slots up r =
    node_rises before root above left at right under (map node_slot L) up.1 (row_rises before L (subst (λ (t : List Slot). BoundsRise before t) up.0 r))

-- in a tree
pub keys_ascend : (before : Before) (pages : PageMap) (root : ℕ) (leaves : List LeafAt) (levels above : List (List NodeAt)) (left : List NodeAt) (at : NodeAt) (right : List NodeAt) (under : List (List NodeAt))
    → Stands before pages root leaves levels → levels ≡ above ++ (left ++ at ∷ right) ∷ under → KeysAscend before at.node.entries
keys_ascend before pages root leaves levels above left at right under st e =
    node_rises before root above left at right under (map leaf_slot leaves) (subst (λ (Ls : List (List NodeAt)). LeadsUp root Ls (map leaf_slot leaves)) e st.up) (leaves_rise before leaves st.order)
