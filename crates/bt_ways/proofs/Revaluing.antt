-- Leaves in order, with other values of one key.
use Rattle.std.proofs.Common.{◌≡◌, ℕ, arith, length, length-append, ◌+◌, List, [], ◌∷◌, ◌++◌, true, map, sym, ap, ◌∙◌, subst}
use Rattle.std.proofs.lemmas.Grind.{flat_map-append}
use Rattle.std.specs.Cmp.{IsTotalOrder}
use Rattle.std.specs.List.{AllByRecursion}
use Rattle.std.specs.declared.cmp.Ordering.{Ordering}
use Rattle.tc_base.specs.declared.seq.Pair.{Pair}
use Rattle.bt_page.specs.declared.page.Item.{Item}
use Rattle.bt_rows.specs.declared.page.LeafAt.{LeafAt}
use Rattle.bt_rows.specs.Levels.{NodeAt, Stands, leaf_slot}
use Rattle.bt_rows.specs.Orders.{Before, IsOrder, before_by}
use Rattle.bt_rows.specs.Pages.{PageMap}
use Rattle.bt_rows.specs.Rules.{Ascends, AtLeast, InLeaf, InOrder, IsBelow, Under, leaf_pairs, pairs_of}
use Rattle.bt_ways.specs.Changes.{items_pairs}
use Rattle.bt_ways.specs.Ways.{Found, IsBehind}
use Rattle.bt_ways.proofs.Keys.{all_join, all_map, all_part, back_above, front_below, order_behind, under_bound}
use Rattle.bt_ways.proofs.Values.{revalued, revalued_within}

-- with other items at a place
abbrev pub with_items : LeafAt → List Item → LeafAt
with_items l items = record { slot = l.slot; leaf = record { prev = l.leaf.prev; next = l.leaf.next; items = items } }

-- the leaves in order, with other items in one of them
pub order_with : (before : Before) (front back : List LeafAt) (leaf : LeafAt) (items : List Item) → InOrder before (front ++ leaf ∷ back)
    → InLeaf before (with_items leaf items) → AllByRecursion (λ m. AllByRecursion (λ x. Under before x.key m.slot.bound) items) back
    → InOrder before (front ++ with_items leaf items ∷ back)
order_with before [] back leaf items o inside under = (inside, both back o.1 under, o.2)
  where
    both : (ms : List LeafAt) → AllByRecursion (IsBelow before leaf) ms → AllByRecursion (λ m. AllByRecursion (λ x. Under before x.key m.slot.bound) items) ms → AllByRecursion (IsBelow before (with_items leaf items)) ms
    both [] h k = tt
    both (m ∷ ms) h k = (record { bounds = h.0.bounds; items = k.0 }, both ms h.1 k.1)
order_with before (l ∷ front) back leaf items o inside under =
    let parts = all_part (IsBelow before l) front (leaf ∷ back) o.1 in (
      o.0,
      all_join (IsBelow before l) front (with_items leaf items ∷ back) parts.0 (record { bounds = parts.1.0.bounds; items = parts.1.0.items }, parts.1.1),
      order_with before front back leaf items o.2 inside under,
    )

-- a key below the first of these places is below them all
under_each : (before : Before) (order : IsOrder before) (key : List ℕ) (ms : List LeafAt) → InOrder before ms → IsBehind before key (map leaf_slot ms) → AllByRecursion (λ m. Under before key m.slot.bound) ms
under_each before order key [] o high = tt
under_each before order key (m ∷ ms) o high = (high, all_map (IsBelow before m) (λ n. Under before key n.slot.bound) ms (λ n b. under_bound before order key m.slot.bound n.slot.bound high b.bounds) o.1)

-- where the values of a key change in the leaf where it belongs, they do in the pairs of all leaves
pub leaf_revalued : (cmp : List ℕ → List ℕ → Ordering) (total : IsTotalOrder cmp) (order : IsOrder (before_by cmp)) (key : List ℕ) (become : List (List ℕ) → List (List ℕ)) (pages : PageMap) (root : ℕ) (leaves : List LeafAt)
    (levels : List (List NodeAt)) (path : List (ℕ × ℕ)) (id : ℕ) → Stands (before_by cmp) pages root leaves levels → (f : Found (before_by cmp) root key leaves levels path id) (items : List Item)
    → Ascends (before_by cmp) items → ((P : List ℕ → Type 0) → P key → AllByRecursion (λ x. P x.key) f.leaf.leaf.items → AllByRecursion (λ x. P x.key) items)
    → items_pairs items ≡ revalued cmp total order key become (leaf_pairs f.leaf)
    → InOrder (before_by cmp) (f.front ++ with_items f.leaf items ∷ f.back) × (pairs_of (f.front ++ with_items f.leaf items ∷ f.back) ≡ revalued cmp total order key become (pairs_of leaves))
leaf_revalued cmp total order key become pages root leaves levels path id st f items ascends keys pairs =
    let before : Before = before_by cmp in
    let o : InOrder before (f.front ++ f.leaf ∷ f.back) = subst (λ (t : List LeafAt). InOrder before t) f.parts st.order in
    let behind = order_behind before f.front (f.leaf ∷ f.back) o in
    let up : AllByRecursion (λ m. Under before key m.slot.bound) f.back = under_each before order key f.back behind.2 f.high in
    let low : AllByRecursion (λ p. before p.key key ≡ true) (pairs_of f.front) = front_below before order f.front f.back f.leaf key o f.low in
    let high : AllByRecursion (λ p. before key p.key ≡ true) (pairs_of f.back) = back_above before order f.back key behind.2 f.high in (
      order_with before f.front f.back f.leaf items o
          (record { ascends = ascends; above = keys (λ k. AtLeast before f.leaf.slot.bound k) f.low behind.0.above })
          (unders before f.back up behind.1),
      flat_map-append leaf_pairs f.front (with_items f.leaf items ∷ f.back)
          ∙ ap (λ (t : List Pair). pairs_of f.front ++ (t ++ pairs_of f.back)) pairs
          ∙ sym (revalued_within cmp total order key become (pairs_of f.front) (leaf_pairs f.leaf) (pairs_of f.back) low high)
          ∙ ap (revalued cmp total order key become) (sym (flat_map-append leaf_pairs f.front (f.leaf ∷ f.back)) ∙ ap pairs_of (sym f.parts)),
    )
  where
    unders : (before : Before) (ms : List LeafAt) → AllByRecursion (λ m. Under before key m.slot.bound) ms → AllByRecursion (IsBelow before f.leaf) ms → AllByRecursion (λ m. AllByRecursion (λ x. Under before x.key m.slot.bound) items) ms
    unders before [] up below = tt
    unders before (m ∷ ms) up below = (keys (λ k. Under before k m.slot.bound) up.0 below.0.items, unders before ms up.1 below.1)

-- as many pairs more or less as in the leaf
pub counted_with : (front back : List LeafAt) (leaf : LeafAt) (items : List Item) (more less : ℕ) → length (items_pairs items) + less ≡ length (leaf_pairs leaf) + more
    → length (pairs_of (front ++ with_items leaf items ∷ back)) + less ≡ length (pairs_of (front ++ leaf ∷ back)) + more
counted_with front back leaf items more less e = omega (arith, e, around leaf, around (with_items leaf items))
  where
    around : (l : LeafAt) → length (pairs_of (front ++ l ∷ back)) ≡ length (pairs_of front) + (length (leaf_pairs l) + length (pairs_of back))
    around l = ap length (flat_map-append leaf_pairs front (l ∷ back)) ∙ length-append (pairs_of front) (leaf_pairs l ++ pairs_of back) ∙ ap (λ (n : ℕ). length (pairs_of front) + n) (length-append (leaf_pairs l) (pairs_of back))
