-- The first leaf of a tree, and the leaf in front of where a key belongs.
use Rattle.std.proofs.Common.{◌≡◌, ◌≢◌, ℕ, ◌+◌, ◌<◌, ◌≤◌, List, [], ◌∷◌, ◌++◌, Bool, true, false, Option, Some, None, length, map, filter, refl, sym, ap, ◌∙◌, subst, inl, inr, ⊎_elim, arith, append_assoc, length-append}
use Rattle.std.specs.Prelude.{slice_get, option_and_then}
use Rattle.std.specs.FinMap.{get}
use Rattle.std.specs.List.{AllByRecursion}
use Rattle.std.specs.declared.cmp.Ordering.{Ordering}
use Rattle.std.proofs.lemmas.Grind.{flat_map-append}
use Rattle.std.proofs.lemmas.List.{append-nil, length-map}
use Rattle.std.proofs.lemmas.List.Elements.{filter-append}
use Rattle.tc_base.specs.Maps.{Map}
use Rattle.tc_base.specs.declared.order.Order.{Ghosts as Orders}
use Rattle.tc_base.specs.declared.seq.Pair.{Pair}
use Rattle.tc_space.specs.declared.records.Records.{Ghosts as Stores}
use Rattle.tc_space.specs.declared.space.Space.{Ghosts}
use Rattle.bt_page.specs.Pages.{HasValue}
use Rattle.bt_page.specs.declared.page.Item.{Item}
use Rattle.bt_page.specs.declared.page.Leaf.{Leaf}
use Rattle.bt_page.specs.declared.page.Node.{Node}
use Rattle.bt_rows.specs.declared.head.TreeHead.{TreeHead}
use Rattle.bt_rows.specs.declared.page.LeafAt.{LeafAt}
use Rattle.bt_rows.specs.declared.page.Page.{Page}
use Rattle.bt_rows.specs.declared.page.Page.TheVariants.{Leaf as leaf_page, Node as node_page}
use Rattle.bt_rows.specs.declared.page.Slot.{Slot}
use Rattle.bt_rows.specs.Levels.{LeadsUp, LeavesHeld, NodeAt, Stands, leaf_slot}
use Rattle.bt_rows.specs.Orders.{Before, IsOrder, before_by}
use Rattle.bt_rows.specs.Pages.{PageMap, IsGiven}
use Rattle.bt_rows.specs.Rows.{first_id, last_id}
use Rattle.bt_rows.specs.Rules.{Ascends, InOrder, IsLinked, IsWithin}
use Rattle.bt_rows.proofs.Held.{decided}
use Rattle.bt_cache.specs.Effects.{Looks}
use Rattle.bt_cache.specs.Held.{Beside, HasPage, IsThere, ReadsAs}
use Rattle.bt_cache.specs.Shared.{IsSomeLeaf}
use Rattle.bt_cache.specs.declared.cache.Cache.{Cache}
use Rattle.bt_ways.specs.Changes.{AreItems, items_pairs}
use Rattle.bt_ways.specs.Items.{IsLeafFor, item_in}
use Rattle.bt_ways.specs.Ways.{Found}
use Rattle.bt_ways.proofs.Keys.{all_flat, all_part, back_above, front_below, not_back, order_behind}
use Rattle.bt_ways.proofs.Rows.{leaves_part}
use Rattle.bt_tree.specs.declared.tree.Tree.{Tree}
use Rattle.bt_tree.specs.Costs.{looks_then, pages_then}
use Rattle.bt_tree.specs.Finding.{LeadsTo}
use Rattle.bt_tree.specs.Meaning.{IsOpen, Means}
use Rattle.bt_tree.specs.Showing.{LeadsInFront, ShownOf, ShowsBelow, ShowsItem, ShowsOne, Takes, end_of, head_key, item_before, item_first, item_last, items_below}
use Rattle.bt_tree.specs.Trees.{HoldsPairs}
use Rattle.bt_tree.specs.Visits.{Visits, stays_then}
use Rattle.bt_tree.proofs.Clears.{none_up}
use Rattle.bt_tree.proofs.Contents.{have, items_of, pairs_items, row_items, rows_ascend}
use Rattle.bt_tree.proofs.Descents.{most_pages}
use Rattle.bt_tree.proofs.EndPairs.{has_last, item_at_end, last_is, spot_of}
use Rattle.bt_tree.proofs.Finds.{found_some}
use Rattle.bt_tree.proofs.Kepts.{ascends_kept, items_all, keeps_all, keeps_none, kept_all, pairs_kept}
use Rattle.bt_tree.proofs.Pages.{has_page}
use Rattle.bt_tree.proofs.Scans.{root_node}

-- ---- pages that were read

module _ {S V O : Type 0} (s : Ghosts S) (R : Stores V S) where
  pub visits_most : (j k : ℕ) (t u : Tree V O) (steps steps' : ℕ) (old new : S) → j ≤ k → Visits s R j t u steps steps' old new → Visits s R k t u steps steps' old new
  visits_most j k t u steps steps' old new le v = record { looks = v.looks; pages = most_pages R j k t.store u.store steps steps' le v.pages; stays = v.stays }

  pub visits_then : (j k : ℕ) (t u w : Tree V O) (a b c : ℕ) (x y z : S) → Visits s R j t u a b x y → Visits s R k u w b c y z → Visits s R (j + k) t w a c x z
  visits_then j k t u w a b c x y z first second = record {
    looks = looks_then s R t.cache u.cache w.cache t.store u.store w.store x y z first.looks second.looks;
    pages = pages_then R j k t.store u.store w.store a b c first.pages second.pages;
    stays = stays_then t u w first.stays second.stays;
  }

-- ---- rows of leaves

-- a leaf that isn't alone isn't the root
not_alone : (before : Before) (pages : PageMap) (root : ℕ) (levels : List (List NodeAt)) (leaves : List LeafAt) (l : LeafAt) → Stands before pages root leaves levels → 1 < length leaves → pages l.slot.id ≡ Some (leaf_page l.leaf) → l.slot.id ≢ root
not_alone before pages root [] leaves l st more at same = omega (arith, more, ap (λ (t : List Slot). length t) st.up, length-map leaves leaf_slot)
not_alone before pages root (L ∷ Ls) leaves l st more at same =
    let n = root_node pages root L Ls st.up.1 st.nodes_held.0 st.nodes_held.1 in
    clash n.0 (sym (ap pages same ∙ n.1) ∙ at)
  where
    clash : (n : Node) → Some (node_page n) ≡ Some (leaf_page l.leaf) → ⊥
    clash n e = cc

back_link : (prev : ℕ) (front : List LeafAt) (l : LeafAt) (back : List LeafAt) → IsLinked prev (front ++ l ∷ back) → l.leaf.prev ≡ last_id prev front
back_link prev [] l back k = k.0
back_link prev (x ∷ front) l back k = back_link x.slot.id front l back k.2

-- ---- the first and the last of items in order

-- items as one leaf
abbrev as_leaf : List Item → Leaf
as_leaf xs = record { prev = 0; next = 0; items = xs }

end_joined : (xs ys : List Item) (x : Item) → end_of ys ≡ Some x → end_of (xs ++ ys) ≡ Some x
end_joined xs [] x e = absurd (cc)
end_joined [] (y ∷ ys) x e = e
end_joined (z ∷ []) (y ∷ ys) x e = e
end_joined (z ∷ w ∷ xs) (y ∷ ys) x e = end_joined (w ∷ xs) (y ∷ ys) x e

some_end : (x : Item) (xs : List Item) → (y : Item) × (end_of (x ∷ xs) ≡ Some y)
some_end x [] = (x, refl)
some_end x (y ∷ xs) = some_end y xs

module _ (cmp : List ℕ → List ℕ → Ordering) (order : IsOrder (before_by cmp)) where
  pub last_of : (xs : List Item) → AreItems cmp xs → item_last (items_pairs xs) ≡ end_of xs
  last_of [] are = refl
  last_of (x ∷ xs) are =
      let e = some_end x xs in
      sym (item_at_end (before_by cmp) order [] (as_leaf (x ∷ xs)) e.0 are.ascends are.some e.1 tt) ∙ sym e.1

  pub first_of : (x : Item) (xs : List Item) → AreItems cmp (x ∷ xs) → item_first (items_pairs (x ∷ xs)) ≡ Some x
  first_of x xs are = ap (λ (k : Option (List ℕ)). option_and_then (λ key. item_in key (items_pairs (x ∷ xs))) k) (head x.values are.some.0) ∙ sym found
    where
      head : (vs : List (List ℕ)) → 0 < length vs → head_key (items_pairs (record x { values = vs } ∷ xs)) ≡ Some x.key
      head [] lt = absurd (omega (arith, lt))
      head (v ∷ vs) lt = refl

      leaf_for : IsLeafFor (before_by cmp) x.key (items_pairs (x ∷ xs)) (as_leaf (x ∷ xs))
      leaf_for = record { ascends = are.ascends; some = are.some; front = []; back = []; are = sym (append-nil (items_pairs (x ∷ xs))); low = tt; high = tt }

      found : Some x ≡ item_in x.key (items_pairs (x ∷ xs))
      found = found_some (before_by cmp) order x.key (items_pairs (x ∷ xs)) (as_leaf (x ∷ xs)) 0 leaf_for x (λ asc. spot_of (before_by cmp) order (x ∷ xs) 0 x asc refl) refl

  pub before_of : (key : List ℕ) (xs : List Item) → AreItems cmp xs → item_before cmp key (items_pairs xs) ≡ end_of (items_below cmp key xs)
  before_of key xs are =
      ap item_last (sym (pairs_kept (λ k. before_by cmp k key) xs))
      ∙ last_of (items_below cmp key xs)
      (record { ascends = ascends_kept (before_by cmp) (λ x. before_by cmp x.key key) xs are.ascends; some = kept_all (λ (x : Item). before_by cmp x.key key) HasValue xs are.some })

-- ---- of a tree

module _ (cmp : List ℕ → List ℕ → Ordering) (order : IsOrder (before_by cmp)) (h : TreeHead) (height : ℕ) (column : Option (List ℕ)) (m : Map) (ps : List Pair) (is : HoldsPairs (before_by cmp) h height column (get m) ps) where
  pub rows_are : AreItems cmp (row_items is.tree.leaves)
  rows_are = record { ascends = rows_ascend (before_by cmp) order is.tree.leaves is.tree.stands.order; some = all_flat HasValue items_of is.tree.leaves (have cmp order h height column m ps is is.tree.leaves is.tree.stands.leaves_held) }

  pairs_are : ps ≡ items_pairs (row_items is.tree.leaves)
  pairs_are = is.are ∙ pairs_items is.tree.leaves

  leaf_held : (front : List LeafAt) (l : LeafAt) (back : List LeafAt) → is.tree.leaves ≡ front ++ l ∷ back → is.tree.pages l.slot.id ≡ Some (leaf_page l.leaf)
  leaf_held front l back parts = (leaves_part is.tree.pages front (l ∷ back) (subst (λ (t : List LeafAt). LeavesHeld is.tree.pages t) parts is.tree.stands.leaves_held)).1.0

  pub leaf_has : (front : List LeafAt) (l : LeafAt) (back : List LeafAt) → is.tree.leaves ≡ front ++ l ∷ back → HasPage m l.slot.id (leaf_page l.leaf)
  leaf_has front l back parts = has_page h m is.tree.pages l.slot.id (leaf_page l.leaf) is.tree.head is.tree.held (leaf_held front l back parts)

  pub id_given : (front : List LeafAt) (l : LeafAt) (back : List LeafAt) → is.tree.leaves ≡ front ++ l ∷ back → 1 ≤ l.slot.id
  id_given front l back parts = ⊎_elim given (λ (not : IsGiven h l.slot.id → ⊥). absurd (clash (sym (is.tree.held.others l.slot.id not) ∙ leaf_held front l back parts))) (decided h l.slot.id)
    where
      clash : None ≡ Some (leaf_page l.leaf) → ⊥
      clash e = cc

      given : IsGiven h l.slot.id → 1 ≤ l.slot.id
      given (inl g) = g.0
      given (inr g) = omega (arith, g.0)

  -- a leaf that isn't alone has an item
  pub some_here : (front : List LeafAt) (l : LeafAt) (back : List LeafAt) → is.tree.leaves ≡ front ++ l ∷ back → 1 < length is.tree.leaves → 0 < length l.leaf.items
  some_here front l back parts more =
      let held = leaf_held front l back parts in
      let within : IsWithin h l.slot.id (Some (leaf_page l.leaf)) = subst (λ (o : Option Page). IsWithin h l.slot.id o) held (is.limits l.slot.id) in
      within.some (not_alone (before_by cmp) is.tree.pages h.root is.tree.levels is.tree.leaves l is.tree.stands more held)

  -- ---- its first leaf

  pub record HasFirst : Type 0 where
    pub leaf : LeafAt
    pub behind : List LeafAt
    pub are : is.tree.leaves ≡ leaf ∷ behind

  pub first_leaf : HasFirst
  first_leaf = go is.tree.leaves refl
    where
      go : (ls : List LeafAt) → is.tree.leaves ≡ ls → HasFirst
      go [] e = absurd (none_up h.root is.tree.levels (subst (λ (x : List LeafAt). LeadsUp h.root is.tree.levels (map leaf_slot x)) e is.tree.stands.up))
      go (l ∷ ls) e = record { leaf = l; behind = ls; are = e }

  pub first_page : HasPage m h.first (leaf_page first_leaf.leaf.leaf)
  first_page = subst (λ (id : ℕ). HasPage m id (leaf_page first_leaf.leaf.leaf)) (sym named) (leaf_has [] first_leaf.leaf first_leaf.behind first_leaf.are)
    where
      named : h.first ≡ first_leaf.leaf.slot.id
      named = is.links.first ∙ ap (λ (ls : List LeafAt). first_id ls) first_leaf.are

  pub first_item : slice_get first_leaf.leaf.leaf.items 0 ≡ item_first ps
  first_item = go first_leaf.leaf.leaf.items refl
    where
      rows : row_items is.tree.leaves ≡ first_leaf.leaf.leaf.items ++ row_items first_leaf.behind
      rows = ap row_items first_leaf.are

      alone : (behind : List LeafAt) → first_leaf.behind ≡ behind → length first_leaf.leaf.leaf.items ≡ 0 → row_items behind ≡ []
      alone [] e none = refl
      alone (l ∷ ls) e none = absurd (omega (arith, none, some_here [] first_leaf.leaf first_leaf.behind first_leaf.are (omega (arith, ap length first_leaf.are, ap length e))))

      go : (xs : List Item) → first_leaf.leaf.leaf.items ≡ xs → slice_get first_leaf.leaf.leaf.items 0 ≡ item_first ps
      go [] e =
          ap (λ (xs : List Item). slice_get xs 0) e
          ∙ sym (ap item_first (pairs_are ∙ ap items_pairs (rows ∙ (λ j. e j ++ alone first_leaf.behind refl (ap length e) j))))
      go (x ∷ xs) e =
          let all : row_items is.tree.leaves ≡ x ∷ (xs ++ row_items first_leaf.behind) = rows ∙ ap (λ (ys : List Item). ys ++ row_items first_leaf.behind) e in
          ap (λ (ys : List Item). slice_get ys 0) e
          ∙ sym (ap item_first (pairs_are ∙ ap items_pairs all) ∙ first_of cmp order x (xs ++ row_items first_leaf.behind) (subst (AreItems cmp) all rows_are))

  -- ---- in front of where a key belongs

  module _ (key : List ℕ) (path : List (ℕ × ℕ)) (id : ℕ) (f : Found (before_by cmp) h.root key is.tree.leaves is.tree.levels path id) where
    abbrev test : Item → Bool
    test x = before_by cmp x.key key

    in_order : InOrder (before_by cmp) (f.front ++ f.leaf ∷ f.back)
    in_order = subst (λ (x : List LeafAt). InOrder (before_by cmp) x) f.parts is.tree.stands.order

    rows : row_items is.tree.leaves ≡ row_items f.front ++ (f.leaf.leaf.items ++ row_items f.back)
    rows = ap row_items f.parts ∙ flat_map-append items_of f.front (f.leaf ∷ f.back)

    values : AllByRecursion HasValue (row_items f.front) × AllByRecursion HasValue (f.leaf.leaf.items ++ row_items f.back)
    values = all_part HasValue (row_items f.front) (f.leaf.leaf.items ++ row_items f.back) (subst (AllByRecursion HasValue) rows rows_are.some)

    pub here_ascends : Ascends (before_by cmp) f.leaf.leaf.items
    here_ascends = (order_behind (before_by cmp) f.front (f.leaf ∷ f.back) in_order).0.ascends

    low : items_below cmp key (row_items f.front) ≡ row_items f.front
    low = keeps_all test (row_items f.front) (items_all (λ k. before_by cmp k key ≡ true) (row_items f.front) values.0
        (subst (λ (qs : List Pair). AllByRecursion (λ p. before_by cmp p.key key ≡ true) qs) (pairs_items f.front) (front_below (before_by cmp) order f.front f.back f.leaf key in_order f.low)))

    high : items_below cmp key (row_items f.back) ≡ []
    high =
        let above : AllByRecursion (λ x. before_by cmp key x.key ≡ true) (row_items f.back) = items_all (λ k. before_by cmp key k ≡ true) (row_items f.back) (all_part HasValue f.leaf.leaf.items (row_items f.back) values.1).1
        (subst (λ (qs : List Pair). AllByRecursion (λ p. before_by cmp key p.key ≡ true) qs) (pairs_items f.back) (back_above (before_by cmp) order f.back key (order_behind (before_by cmp) f.front (f.leaf ∷ f.back) in_order).2 f.high)) in
        keeps_none test (row_items f.back) (others (row_items f.back) above)
      where
        others : (xs : List Item) → AllByRecursion (λ x. before_by cmp key x.key ≡ true) xs → AllByRecursion (λ x. before_by cmp x.key key ≡ false) xs
        others [] h = tt
        others (x ∷ xs) h = (not_back (before_by cmp) order key x.key h.0, others xs h.1)

    below_rows : items_below cmp key (row_items is.tree.leaves) ≡ row_items f.front ++ items_below cmp key f.leaf.leaf.items
    below_rows =
        ap (filter test) rows
        ∙ filter-append test (row_items f.front) (f.leaf.leaf.items ++ row_items f.back)
        ∙ (λ j. low j ++ filter-append test f.leaf.leaf.items (row_items f.back) j)
        ∙ ap (λ (xs : List Item). row_items f.front ++ (items_below cmp key f.leaf.leaf.items ++ xs)) high
        ∙ ap (λ (xs : List Item). row_items f.front ++ xs) (append-nil (items_below cmp key f.leaf.leaf.items))

    is_end : item_before cmp key ps ≡ end_of (row_items f.front ++ items_below cmp key f.leaf.leaf.items)
    is_end = ap (item_before cmp key) pairs_are ∙ before_of cmp order key (row_items is.tree.leaves) rows_are ∙ ap end_of below_rows

    pub found_page : HasPage m id (leaf_page f.leaf.leaf)
    found_page = subst (λ (j : ℕ). HasPage m j (leaf_page f.leaf.leaf)) f.is (leaf_has f.front f.leaf f.back f.parts)

    -- the leaf where the key belongs has the item
    pub before_here : {T : Type 0} (takes : Takes T) (t u : T) → ShownOf takes (end_of (items_below cmp key f.leaf.leaf.items)) true t u → ShownOf takes (item_before cmp key ps) true t u
    before_here takes t u shown = go (end_of (items_below cmp key f.leaf.leaf.items)) refl
      where
        never : true ≡ false → ⊥
        never e = cc

        go : (o : Option Item) → end_of (items_below cmp key f.leaf.leaf.items) ≡ o → ShownOf takes (item_before cmp key ps) true t u
        go None e = absurd (never (subst (λ (o : Option Item). ShownOf takes o true t u) e shown).0)
        go (Some x) e =
            let same : item_before cmp key ps ≡ Some x = is_end ∙ end_joined (row_items f.front) (items_below cmp key f.leaf.leaf.items) x e in
            subst (λ (o : Option Item). ShownOf takes o true t u) (e ∙ sym same) shown

    module _ (none : items_below cmp key f.leaf.leaf.items ≡ []) where
      ends_front : item_before cmp key ps ≡ end_of (row_items f.front)
      ends_front = is_end ∙ ap (λ (xs : List Item). end_of (row_items f.front ++ xs)) none ∙ ap end_of (append-nil (row_items f.front))

      link : f.leaf.leaf.prev ≡ last_id 0 f.front
      link = back_link 0 f.front f.leaf f.back (subst (λ (t : List LeafAt). IsLinked 0 t) f.parts is.tree.stands.links)

      -- no leaf is in front
      pub before_none : f.leaf.leaf.prev ≡ 0 → item_before cmp key ps ≡ None
      before_none zero_prev = go f.front refl
        where
          go : (front : List LeafAt) → f.front ≡ front → item_before cmp key ps ≡ None
          go [] e = ends_front ∙ ap (λ (ls : List LeafAt). end_of (row_items ls)) e
          go (l ∷ ls) e =
              let last = has_last l ls in
              let same : f.front ≡ last.front ++ last.leaf ∷ [] = e ∙ last.are in
              let given : 1 ≤ last.leaf.slot.id = id_given last.front last.leaf (f.leaf ∷ f.back) (f.parts ∙ ap (λ (x : List LeafAt). x ++ f.leaf ∷ f.back) same ∙ append_assoc last.front (last.leaf ∷ []) (f.leaf ∷ f.back)) in
              absurd (omega (arith, given, sym zero_prev ∙ link ∙ ap (last_id 0) same ∙ last_is 0 last.front last.leaf))

      -- the leaf in front
      pub record InFront : Type 0 where
        pub leaf : Leaf
        pub there : HasPage m f.leaf.leaf.prev (leaf_page leaf)
        pub ends : end_of leaf.items ≡ item_before cmp key ps

      pub before_front : f.leaf.leaf.prev ≢ 0 → InFront
      before_front some = go f.front refl
        where
          go : (front : List LeafAt) → f.front ≡ front → InFront
          go [] e = absurd (some (link ∙ ap (last_id 0) e))
          go (l ∷ ls) e =
              let last = has_last l ls in
              let same : f.front ≡ last.front ++ last.leaf ∷ [] = e ∙ last.are in
              let parts : is.tree.leaves ≡ last.front ++ last.leaf ∷ (f.leaf ∷ f.back) = f.parts ∙ ap (λ (x : List LeafAt). x ++ f.leaf ∷ f.back) same ∙ append_assoc last.front (last.leaf ∷ []) (f.leaf ∷ f.back) in
              let lt : 0 < length last.leaf.leaf.items = some_here last.front last.leaf (f.leaf ∷ f.back) parts (omega (arith, ap length parts, length-append last.front (last.leaf ∷ f.leaf ∷ f.back))) in
              let name : f.leaf.leaf.prev ≡ last.leaf.slot.id = link ∙ ap (last_id 0) same ∙ last_is 0 last.front last.leaf in
              let split : row_items f.front ≡ row_items last.front ++ last.leaf.leaf.items =
              ap row_items same ∙ flat_map-append items_of last.front (last.leaf ∷ []) ∙ ap (λ (xs : List Item). row_items last.front ++ xs) (append-nil last.leaf.leaf.items) in
              record {
                leaf = last.leaf.leaf;
                there = subst (λ (id : ℕ). HasPage m id (leaf_page last.leaf.leaf)) (sym name) (leaf_has last.front last.leaf (f.leaf ∷ f.back) parts);
                ends = ends last.leaf.leaf.items lt (row_items last.front) ∙ sym (ends_front ∙ ap end_of split);
              }
            where
              ends : (xs : List Item) → 0 < length xs → (a : List Item) → end_of xs ≡ end_of (a ++ xs)
              ends [] lt a = absurd (omega (arith, lt))
              ends (x ∷ xs) lt a = let e = some_end x xs in e.1 ∙ sym (end_joined a (x ∷ xs) e.0 e.1)

-- ---- whatever a store tells

module _ {S V O : Type 0} (s : Ghosts S) (R : Stores V S) (o : Orders O) (order : IsOrder (before_by o.cmp)) (t : Tree V O) (old : S) where
  pub first_leaf_there : IsOpen s R o t old → IsThere s R IsSomeLeaf t.head.first t.cache t.store old
  first_leaf_there ready = λ told.
      let h = ready.held told in
      let first = first_leaf o.cmp order t.head t.height t.column h.1.1.records h.0 h.1.1.is in
      (h.1.1.records, leaf_page first.leaf.leaf, ((told, h.1.1.store), h.1.1.same), first_page o.cmp order t.head t.height t.column h.1.1.records h.0 h.1.1.is, (first.leaf.leaf, refl))

  pub shown_first : {T : Type 0} (takes : Takes T) (read : Leaf) (held : Bool) (a b : T) → ReadsAs s R leaf_page t.head.first t.cache t.store old read → ShownOf takes (slice_get read.items 0) held a b → ShowsItem s R o item_first takes t old held a b
  shown_first takes read held a b is_read shown = λ ps means.
      let m : Map = means.1.records in
      let first = first_leaf o.cmp order t.head t.height t.column m ps means.1.is in
      let same : read ≡ first.leaf.leaf = is_read m first.leaf.leaf ((means.0, means.1.store), means.1.same) (first_page o.cmp order t.head t.height t.column m ps means.1.is) in
      subst (λ (x : Option Item). ShownOf takes x held a b) (ap (λ (l : Leaf). slice_get l.items 0) same ∙ first_item o.cmp order t.head t.height t.column m ps means.1.is) shown

  -- a leaf was read where a key belongs
  module _ (key : List ℕ) (path : List (ℕ × ℕ)) (id : ℕ) (found : LeadsTo s R o.cmp (before_by o.cmp) key t old path id) (c : Cache V) (v : V) (mid : S) (read : Leaf)
      (looks : Looks s R t.cache c t.store v old mid) (is_read : ReadsAs s R leaf_page id c v mid read) where
    abbrev Way : (ps : List Pair) → Means s R o t old ps → Type 0
    Way ps means = Found (before_by o.cmp) t.head.root key means.1.is.tree.leaves means.1.is.tree.levels path id

    way : (ps : List Pair) (means : Means s R o t old ps) → Way ps means
    way ps means = found means.1.records means.1.is.tree ((means.0, means.1.store), means.1.same)

    same_leaf : (ps : List Pair) (means : Means s R o t old ps) → read ≡ (way ps means).leaf.leaf
    same_leaf ps means =
        let m : Map = means.1.records in
        let f = way ps means in
        is_read m f.leaf.leaf (looks.reads.means m ((means.0, means.1.store), means.1.same)) (found_page o.cmp order t.head t.height t.column m ps means.1.is key path id f)

    pub shown_here : {T : Type 0} (takes : Takes T) (a b : T) → ShowsBelow o.cmp key takes read a b → ShowsItem s R o (item_before o.cmp key) takes t old true a b
    shown_here takes a b shown = λ ps means.
        let m : Map = means.1.records in
        let f = way ps means in
        before_here o.cmp order t.head t.height t.column m ps means.1.is key path id f takes a b
        (subst (λ (l : Leaf). ShowsBelow o.cmp key takes l a b) (same_leaf ps means) shown (here_ascends o.cmp order t.head t.height t.column m ps means.1.is key path id f))

    module _ {T : Type 0} (takes : Takes T) (prev : ℕ) (a b : T) (leads : LeadsInFront o.cmp key read prev a b) where
      none_below : (ps : List Pair) (means : Means s R o t old ps) → items_below o.cmp key (way ps means).leaf.leaf.items ≡ []
      none_below ps means =
          let same = same_leaf ps means in
          let asc = here_ascends o.cmp order t.head t.height t.column means.1.records ps means.1.is key path id (way ps means) in
          sym (ap (λ (l : Leaf). items_below o.cmp key l.items) same) ∙ leads.none (subst (λ (l : Leaf). Ascends (before_by o.cmp) l.items) (sym same) asc)

      prev_is : (ps : List Pair) (means : Means s R o t old ps) → prev ≡ (way ps means).leaf.leaf.prev
      prev_is ps means = leads.front ∙ ap (λ (l : Leaf). l.prev) (same_leaf ps means)

      pub shown_none : prev ≡ 0 → ShowsItem s R o (item_before o.cmp key) takes t old false a b
      shown_none none = λ ps means.
          let m : Map = means.1.records in
          let is_none = before_none o.cmp order t.head t.height t.column m ps means.1.is key path id (way ps means) (none_below ps means) (sym (prev_is ps means) ∙ none) in
          subst (λ (x : Option Item). ShownOf takes x false a b) (sym is_none) (refl, leads.same)

      module _ (some : prev ≢ 0) where
        front : (ps : List Pair) (means : Means s R o t old ps) → InFront o.cmp order t.head t.height t.column means.1.records ps means.1.is key path id (way ps means) (none_below ps means)
        front ps means = before_front o.cmp order t.head t.height t.column means.1.records ps means.1.is key path id (way ps means) (none_below ps means) (λ e. some (prev_is ps means ∙ e))

        front_page : (ps : List Pair) (means : Means s R o t old ps) → HasPage means.1.records prev (leaf_page (front ps means).leaf)
        front_page ps means = subst (λ (j : ℕ). HasPage means.1.records j (leaf_page (front ps means).leaf)) (sym (prev_is ps means)) (front ps means).there

        module _ (e : Cache V) (w : V) (far : S) (on : Looks s R t.cache e t.store w old far) where
          pub front_there : IsOpen s R o t old → IsThere s R IsSomeLeaf prev e w far
          front_there ready = λ told.
              let h = ready.held told in
              let means : Means s R o t old h.0 = h.1 in (
                means.1.records,
                leaf_page (front h.0 means).leaf,
                on.reads.means means.1.records ((means.0, means.1.store), means.1.same),
                front_page h.0 means,
                ((front h.0 means).leaf, refl),
              )

          pub shown_front : (u : Tree V O) (held : Bool) (d : T) → u.cache ≡ e → u.store ≡ w → ShowsOne s R takes prev u far held b d → ShowsItem s R o (item_before o.cmp key) takes t old held a d
          shown_front u held d cache store shows = λ ps means.
              let m : Map = means.1.records in
              let g = front ps means in
              let beside : Beside s R (e.pages, w) far m = on.reads.means m ((means.0, means.1.store), means.1.same) in
              let beside' : Beside s R (u.cache.pages, u.store) far m = subst (λ (x : Cache V). Beside s R (x.pages, u.store) far m) (sym cache) (subst (λ (x : V). Beside s R (e.pages, x) far m) (sym store) beside) in
              let one : ShownOf takes (end_of g.leaf.items) held b d = shows m g.leaf beside' (front_page ps means) in
              subst (λ (x : Option Item). ShownOf takes x held a d) g.ends (subst (λ (x : T). ShownOf takes (end_of g.leaf.items) held x d) leads.same one)
