-- Items as copies, from where a stretch begins on.
use Rattle.std.proofs.Common.{◌≡◌, ◌≢◌, ◌⊎◌, ℕ, ◌+◌, ◌-◌, ◌<◌, ◌≤◌, ◌^◌, List, [], ◌∷◌, ◌++◌, Bool, true, false, Option, Some, None, length, take, drop, refl, sym, ap, ◌∙◌, subst, inl, ⊎_elim, arith, append_assoc, length-append}
use Rattle.std.specs.Prelude.{slice_get}
use Rattle.std.specs.FinMap.{get}
use Rattle.std.specs.List.{AllByRecursion}
use Rattle.std.specs.Cmp.{IsTotalOrder}
use Rattle.std.specs.declared.cmp.Ordering.{Ordering}
use Rattle.std.proofs.lemmas.Grind.{flat_map-append}
use Rattle.std.proofs.lemmas.List.{append-nil, drop_all, drop_more, take-append-drop}
use Rattle.std.proofs.lemmas.List.Elements.{filter-append}
use Rattle.std.proofs.lemmas.Map.Lookups.{CmpEqualImpliesEq}
use Rattle.std.proofs.lemmas.Option.{get_or_from_slice_get}
use Rattle.tc_base.specs.Maps.{Map}
use Rattle.tc_base.specs.Orders.{NeverFalls}
use Rattle.tc_base.specs.declared.order.Order.{Ghosts as Orders}
use Rattle.tc_base.specs.declared.order.Side.{Side}
use Rattle.tc_base.specs.declared.order.Side.TheVariants as sides
use Rattle.tc_base.specs.declared.seq.Pair.{Pair}
use Rattle.tc_space.specs.declared.records.Records.{Ghosts as Stores}
use Rattle.tc_space.specs.declared.space.Space.{Ghosts}
use Rattle.bt_page.specs.Pages.{HasValue}
use Rattle.bt_page.specs.declared.page.Item.{Item}
use Rattle.bt_page.specs.declared.page.Leaf.{Leaf}
use Rattle.bt_rows.specs.declared.head.TreeHead.{TreeHead}
use Rattle.bt_rows.specs.declared.page.LeafAt.{LeafAt}
use Rattle.bt_rows.specs.declared.page.Page.TheVariants.{Leaf as leaf_page}
use Rattle.bt_rows.specs.Orders.{Before, IsOrder, before_by}
use Rattle.bt_rows.specs.Rows.{first_id}
use Rattle.bt_rows.specs.Rules.{Ascends, InOrder, IsLinked, item_pairs, leaf_pairs, pairs_of}
use Rattle.bt_rows.proofs.Ordered.{orders_are_strict}
use Rattle.bt_cache.specs.Effects.{Looks}
use Rattle.bt_cache.specs.Held.{HasPage, IsThere}
use Rattle.bt_cache.specs.Shared.{IsSomeLeaf}
use Rattle.bt_ways.specs.Changes.{AreItems, items_pairs}
use Rattle.bt_ways.specs.Ways.{Found}
use Rattle.bt_ways.proofs.Keys.{all_items, all_part, order_behind}
use Rattle.bt_tree.specs.declared.tree.Tree.{Tree}
use Rattle.bt_tree.specs.Finding.{LeadsTo}
use Rattle.bt_tree.specs.Meaning.{AnswersPairs, IsOpen, Means}
use Rattle.bt_tree.specs.Ranging.{is_front, is_from, start_of}
use Rattle.bt_tree.specs.Seeking.{AreFirstOf, CopiesFrom, SeeksLeaf, SeeksPairs, pairs_from}
use Rattle.bt_tree.specs.Showing.{ShownOf, ShowsItem, Takes}
use Rattle.bt_tree.specs.Trees.{HoldsPairs}
use Rattle.bt_tree.specs.Visits.{Asks}
use Rattle.bt_tree.proofs.Descents.{leaf_values}
use Rattle.bt_tree.proofs.Contents.{items_of, pairs_items, row_items}
use Rattle.bt_tree.proofs.Fronts.{id_given, leaf_has, rows_are, some_here}
use Rattle.bt_tree.proofs.Kepts.{keeps_all, keeps_none, no_pairs}
use Rattle.bt_tree.proofs.Scans.{all_from, all_front, link_at}

-- ---- copies of items of a list, one by one

pub copying : (items old : List Item) (place : ℕ) → old ≡ [] → old ++ drop place items ≡ drop place items
copying items old place none = ap (λ (xs : List Item). xs ++ drop place items) none

pub copying_more : (items old new : List Item) (place i : ℕ) (x : Item) → old ++ drop i items ≡ drop place items → i < length items → slice_get items i ≡ Some x → new ≡ old ++ x ∷ [] → new ++ drop (i + 1) items ≡ drop place items
copying_more items old new place i x so lt at added =
    let here : drop i items ≡ x ∷ drop (i + 1) items = drop_more items i x lt ∙ ap (λ (y : Item). y ∷ drop (i + 1) items) (get_or_from_slice_get items i x x at) in
    ap (λ (xs : List Item). xs ++ drop (i + 1) items) added ∙ append_assoc old (x ∷ []) (drop (i + 1) items) ∙ ap (λ (xs : List Item). old ++ xs) (sym here) ∙ so

pub copying_end : (items old : List Item) (place i : ℕ) → old ++ drop i items ≡ drop place items → length items ≤ i → old ≡ drop place items
copying_end items old place i so le = sym (append-nil old) ∙ ap (λ (xs : List Item). old ++ xs) (sym (drop_all i items le)) ∙ so

pub empty_list : (xs : List Item) → length xs ≡ 0 → xs ≡ []
empty_list [] e = refl
empty_list (x ∷ xs) e = absurd (omega (arith, e))

-- ---- items that aren't in front of a stretch

front_not : (s : Side) → is_front s ≡ true → is_from s ≡ false
front_not sides.Before e = refl
front_not sides.Inside e = absurd (cc)
front_not sides.After e = absurd (cc)

not_both : (s : Side) → is_front s ≡ true → is_from s ≡ true → ⊥
not_both sides.Before e f = cc
not_both sides.Inside e f = cc
not_both sides.After e f = cc

behind_ascends : (before : Before) (xs ys : List Item) → Ascends before (xs ++ ys) → Ascends before ys
behind_ascends before [] ys a = a
behind_ascends before (x ∷ xs) ys a = behind_ascends before xs ys a.1

module _ (side : List ℕ → Side) where
  abbrev test : Pair → Bool
  test p = is_from (side p.key)

  fronts_not : (ps : List Pair) → AllByRecursion (λ p. is_front (side p.key) ≡ true) ps → AllByRecursion (λ p. is_from (side p.key) ≡ false) ps
  fronts_not [] h = tt
  fronts_not (p ∷ ps) h = (front_not (side p.key) h.0, fronts_not ps h.1)

  none_from : (ps : List Pair) → AllByRecursion (λ p. is_front (side p.key) ≡ true) ps → pairs_from side ps ≡ []
  none_from ps h = keeps_none test ps (fronts_not ps h)

  all_are : (ps : List Pair) → AllByRecursion (λ p. is_from (side p.key) ≡ true) ps → pairs_from side ps ≡ ps
  all_are ps h = keeps_all test ps h

  from-append : (ps qs : List Pair) → pairs_from side (ps ++ qs) ≡ pairs_from side ps ++ pairs_from side qs
  from-append ps qs = filter-append test ps qs

  -- those of a leaf
  leaf_from : (l : Leaf) (items : List Item) (next : ℕ) → CopiesFrom side l items next → pairs_from side (items_pairs l.items) ≡ items_pairs items
  leaf_from l items next k =
      let front = take k.place l.items in
      let rest = drop k.place l.items in
      ap (λ (xs : List Item). pairs_from side (items_pairs xs)) (sym (take-append-drop k.place l.items))
      ∙ ap (pairs_from side) (flat_map-append item_pairs front rest)
      ∙ from-append (items_pairs front) (items_pairs rest)
      ∙ (λ j. none_from (items_pairs front) (all_items (λ key. is_front (side key) ≡ true) front k.start.front) j ++ all_are (items_pairs rest) (all_items (λ key. is_from (side key) ≡ true) rest k.start.others) j)
      ∙ ap items_pairs (sym k.are)

module _ (cmp : List ℕ → List ℕ → Ordering) (total : IsTotalOrder cmp) (exact : CmpEqualImpliesEq cmp) (side : List ℕ → Side) (falls : NeverFalls cmp side)
    (h : TreeHead) (height : ℕ) (column : Option (List ℕ)) (m : Map) (ps : List Pair) (is : HoldsPairs (before_by cmp) h height column (get m) ps) where
  strict : IsOrder (before_by cmp)
  strict = orders_are_strict cmp total exact

  items_are : (front : List LeafAt) (l : LeafAt) (back : List LeafAt) → is.tree.leaves ≡ front ++ l ∷ back → AreItems cmp l.leaf.items
  items_are front l back parts = record {
    ascends = (order_behind (before_by cmp) front (l ∷ back) (subst (λ (t : List LeafAt). InOrder (before_by cmp) t) parts is.tree.stands.order)).0.ascends;
    some = leaf_values m l.slot.id l.leaf (leaf_has cmp strict h height column m ps is front l back parts);
  }

  -- some of a leaf's, and all behind them
  rest_are : (front : List LeafAt) (l : LeafAt) (back : List LeafAt) → is.tree.leaves ≡ front ++ l ∷ back → (items : List Item) (next : ℕ) → CopiesFrom side l.leaf items next → AreItems cmp (items ++ row_items back)
  rest_are front l back parts items next k =
      let skipped : List Item = row_items front ++ take k.place l.leaf.items in
      let split : l.leaf.items ≡ take k.place l.leaf.items ++ items = sym (take-append-drop k.place l.leaf.items) ∙ ap (λ (xs : List Item). take k.place l.leaf.items ++ xs) (sym k.are) in
      let whole : row_items is.tree.leaves ≡ skipped ++ (items ++ row_items back) =
      ap row_items parts
      ∙ flat_map-append items_of front (l ∷ back)
      ∙ ap (λ (xs : List Item). row_items front ++ (xs ++ row_items back)) split
      ∙ ap (λ (xs : List Item). row_items front ++ xs) (append_assoc (take k.place l.leaf.items) items (row_items back))
      ∙ sym (append_assoc (row_items front) (take k.place l.leaf.items) (items ++ row_items back)) in
      let all : AreItems cmp (skipped ++ (items ++ row_items back)) = subst (AreItems cmp) whole (rows_are cmp strict h height column m ps is) in
      record { ascends = behind_ascends (before_by cmp) skipped (items ++ row_items back) all.ascends; some = (all_part HasValue skipped (items ++ row_items back) all.some).1 }

  -- their pairs
  rest_pairs : (items : List Item) (back : List LeafAt) → items_pairs (items ++ row_items back) ≡ items_pairs items ++ pairs_of back
  rest_pairs items back = flat_map-append item_pairs items (row_items back) ∙ ap (λ (qs : List Pair). items_pairs items ++ qs) (sym (pairs_items back))

  module _ (path : List (ℕ × ℕ)) (id : ℕ) (f : Found (start_of side) h.root [] is.tree.leaves is.tree.levels path id) where
    in_order : InOrder (before_by cmp) (f.front ++ f.leaf ∷ f.back)
    in_order = subst (λ (t : List LeafAt). InOrder (before_by cmp) t) f.parts is.tree.stands.order

    front_none : pairs_from side (pairs_of f.front) ≡ []
    front_none = none_from side (pairs_of f.front) (all_front cmp total exact side falls f.front f.leaf f.back in_order f.low)

    back_from : AllByRecursion (λ p. is_from (side p.key) ≡ true) (pairs_of f.back)
    back_from = all_from cmp total exact side falls f.back (order_behind (before_by cmp) f.front (f.leaf ∷ f.back) in_order).2 f.high

    pub start_page : HasPage m id (leaf_page f.leaf.leaf)
    start_page = subst (λ (j : ℕ). HasPage m j (leaf_page f.leaf.leaf)) f.is (leaf_has cmp strict h height column m ps is f.front f.leaf f.back f.parts)

    pub start_ascends : Ascends (before_by cmp) f.leaf.leaf.items
    start_ascends = (items_are f.front f.leaf f.back f.parts).ascends

    link : f.leaf.leaf.next ≡ first_id f.back
    link = link_at 0 f.front f.leaf f.back (subst (λ (t : List LeafAt). IsLinked 0 t) f.parts is.tree.stands.links)

    module _ (items : List Item) (next : ℕ) (k : CopiesFrom side f.leaf.leaf items next) where
      -- those of the leaf, and all behind it
      from_pairs : pairs_from side ps ≡ items_pairs items ++ pairs_of f.back
      from_pairs =
          ap (pairs_from side) (is.are ∙ ap pairs_of f.parts ∙ flat_map-append leaf_pairs f.front (f.leaf ∷ f.back))
          ∙ from-append side (pairs_of f.front) (leaf_pairs f.leaf ++ pairs_of f.back)
          ∙ (λ j. front_none j ++ from-append side (leaf_pairs f.leaf) (pairs_of f.back) j)
          ∙ (λ j. leaf_from side f.leaf.leaf items next k j ++ all_are side (pairs_of f.back) back_from j)

      ends : items ≡ [] → next ≡ 0 → pairs_from side ps ≡ []
      ends none end = from_pairs ∙ (λ j. items_pairs (none j) ++ last f.back refl j)
        where
          last : (back : List LeafAt) → f.back ≡ back → pairs_of back ≡ []
          last [] e = refl
          last (l ∷ back) e =
              let given : 1 ≤ l.slot.id = id_given cmp strict h height column m ps is (f.front ++ f.leaf ∷ []) l back (f.parts ∙ ap (λ (t : List LeafAt). f.front ++ f.leaf ∷ t) e ∙ sym (append_assoc f.front (f.leaf ∷ []) (l ∷ back))) in
              absurd (omega (arith, given, sym end ∙ k.on ∙ link ∙ ap (λ (ls : List LeafAt). first_id ls) e))

      pub sought_here : (0 < length items) ⊎ (next ≡ 0) → AreFirstOf cmp items (pairs_from side ps)
      sought_here why = record {
        left = row_items f.back;
        are = rest_are f.front f.leaf f.back f.parts items next k;
        pairs = rest_pairs items f.back ∙ sym from_pairs;
        some = λ none. ⊎_elim (λ some. absurd (omega (arith, some, ap length none))) (λ end. ends none end) why;
      }

      -- the next leaf
      pub record HasNext : Type 0 where
        pub leaf : LeafAt
        pub behind : List LeafAt
        pub are : f.back ≡ leaf ∷ behind
        pub is_next : next ≡ leaf.slot.id

      next_leaf : next ≢ 0 → HasNext
      next_leaf on = go f.back refl
        where
          go : (back : List LeafAt) → f.back ≡ back → HasNext
          go [] e = absurd (on (k.on ∙ link ∙ ap (λ (ls : List LeafAt). first_id ls) e))
          go (l ∷ back) e = record { leaf = l; behind = back; are = e; is_next = k.on ∙ link ∙ ap (λ (ls : List LeafAt). first_id ls) e }

      module _ (on : next ≢ 0) where
        pub n : HasNext
        n = next_leaf on

        parts : is.tree.leaves ≡ (f.front ++ f.leaf ∷ []) ++ n.leaf ∷ n.behind
        parts = f.parts ∙ ap (λ (t : List LeafAt). f.front ++ f.leaf ∷ t) n.are ∙ sym (append_assoc f.front (f.leaf ∷ []) (n.leaf ∷ n.behind))

        abbrev pub onward : Leaf
        onward = n.leaf.leaf

        pub onward_page : HasPage m next (leaf_page onward)
        onward_page = subst (λ (j : ℕ). HasPage m j (leaf_page onward)) (sym n.is_next) (leaf_has cmp strict h height column m ps is (f.front ++ f.leaf ∷ []) n.leaf n.behind parts)

        pub onward_ascends : Ascends (before_by cmp) onward.items
        onward_ascends = (items_are (f.front ++ f.leaf ∷ []) n.leaf n.behind parts).ascends

        -- it has an item, and none of its is in front of the stretch
        pub sought_onward : (more : List Item) (after : ℕ) → items ≡ [] → CopiesFrom side onward more after → AreFirstOf cmp more (pairs_from side ps)
        sought_onward more after none k' =
            let are = items_are (f.front ++ f.leaf ∷ []) n.leaf n.behind parts in
            let from : AllByRecursion (λ p. is_from (side p.key) ≡ true) (leaf_pairs n.leaf ++ pairs_of n.behind) = subst (λ (ls : List LeafAt). AllByRecursion (λ p. is_from (side p.key) ≡ true) (pairs_of ls)) n.are back_from in
            let whole : items_pairs more ≡ leaf_pairs n.leaf = sym (leaf_from side onward more after k') ∙ all_are side (leaf_pairs n.leaf) (all_part (λ p. is_from (side p.key) ≡ true) (leaf_pairs n.leaf) (pairs_of n.behind) from).0 in
            let some : 0 < length onward.items = some_here cmp strict h height column m ps is (f.front ++ f.leaf ∷ []) n.leaf n.behind parts (omega (arith, ap length parts, length-append (f.front ++ f.leaf ∷ []) (n.leaf ∷ n.behind), length-append f.front (f.leaf ∷ []))) in
            record {
              left = row_items n.behind;
              are = rest_are (f.front ++ f.leaf ∷ []) n.leaf n.behind parts more after k';
              pairs = rest_pairs more n.behind ∙ (λ j. whole j ++ pairs_of n.behind) ∙ sym (from_pairs ∙ (λ j. items_pairs (none j) ++ pairs_of (n.are j)));
              some = λ e. absurd (omega (arith, some, ap length (no_pairs onward.items are.some (sym whole ∙ ap items_pairs e))));
            }

-- ---- whatever a store tells

module _ {S V O : Type 0} (s : Ghosts S) (R : Stores V S) (o : Orders O) (total : IsTotalOrder o.cmp) (exact : CmpEqualImpliesEq o.cmp) (side : List ℕ → Side) (falls : NeverFalls o.cmp side)
    (t : Tree V O) (old : S) (path : List (ℕ × ℕ)) (id : ℕ) (found : LeadsTo s R o.cmp (start_of side) [] t old path id) where
  way : (ps : List Pair) (means : Means s R o t old ps) → Found (start_of side) t.head.root [] means.1.is.tree.leaves means.1.is.tree.levels path id
  way ps means = found means.1.records means.1.is.tree ((means.0, means.1.store), means.1.same)

  module _ (c : Tree V O) (new : S) (looks : Looks s R t.cache c.cache t.store c.store old new) where
    pub start_there : IsOpen s R o t old → IsThere s R IsSomeLeaf id c.cache c.store new
    start_there ready = λ told.
        let h = ready.held told in
        let means : Means s R o t old h.0 = h.1 in
        let f = way h.0 means in (
          means.1.records,
          leaf_page f.leaf.leaf,
          looks.reads.means means.1.records ((means.0, means.1.store), means.1.same),
          start_page o.cmp total exact side falls t.head t.height t.column means.1.records h.0 means.1.is path id f,
          (f.leaf.leaf, refl),
        )

    module _ (items : List Item) (next : ℕ) (copies : SeeksLeaf s R (before_by o.cmp) side id c new items next) where
      here : (ps : List Pair) (means : Means s R o t old ps) → CopiesFrom side (way ps means).leaf.leaf items next
      here ps means =
          let m : Map = means.1.records in
          let f = way ps means in
          copies m f.leaf.leaf (looks.reads.means m ((means.0, means.1.store), means.1.same)) (start_page o.cmp total exact side falls t.head t.height t.column m ps means.1.is path id f) (start_ascends o.cmp total exact side falls t.head t.height t.column m ps means.1.is path id f)

      pub seeks_here : (0 < length items) ⊎ (next ≡ 0) → SeeksPairs s R o side t old items
      seeks_here why = λ ps means. sought_here o.cmp total exact side falls t.head t.height t.column means.1.records ps means.1.is path id (way ps means) items next (here ps means) why

      module _ (on : next ≢ 0) (e : Tree V O) (far : S) (looks' : Looks s R t.cache e.cache t.store e.store old far) where
        pub onward_there : IsOpen s R o t old → IsThere s R IsSomeLeaf next e.cache e.store far
        onward_there ready = λ told.
            let h = ready.held told in
            let means : Means s R o t old h.0 = h.1 in (
              means.1.records,
              leaf_page (onward o.cmp total exact side falls t.head t.height t.column means.1.records h.0 means.1.is path id (way h.0 means) items next (here h.0 means) on),
              looks'.reads.means means.1.records ((means.0, means.1.store), means.1.same),
              onward_page o.cmp total exact side falls t.head t.height t.column means.1.records h.0 means.1.is path id (way h.0 means) items next (here h.0 means) on,
              (onward o.cmp total exact side falls t.head t.height t.column means.1.records h.0 means.1.is path id (way h.0 means) items next (here h.0 means) on, refl),
            )

        pub seeks_onward : (more : List Item) (after : ℕ) → items ≡ [] → SeeksLeaf s R (before_by o.cmp) side next e far more after → SeeksPairs s R o side t old more
        seeks_onward more after none copied = λ ps means.
            let m : Map = means.1.records in
            let f = way ps means in
            let k = here ps means in
            sought_onward o.cmp total exact side falls t.head t.height t.column m ps means.1.is path id f items next k on more after none
            (copied m (onward o.cmp total exact side falls t.head t.height t.column m ps means.1.is path id f items next k on) (looks'.reads.means m ((means.0, means.1.store), means.1.same))
            (onward_page o.cmp total exact side falls t.head t.height t.column m ps means.1.is path id f items next k on)
            (onward_ascends o.cmp total exact side falls t.head t.height t.column m ps means.1.is path id f items next k on))

-- ---- an item that was shown, as a copy

copied : {T : Type 0} (takes : Takes T) (item : T → Option Item) (t u : T) (x : Option Item) (held : Bool) → ((t u : T) (x : Item) (more : Bool) → takes t x u more → item u ≡ Some x) → item t ≡ None → ShownOf takes x held t u → item u ≡ x
copied takes item t u None held taken none shown = ap item shown.1 ∙ none
copied takes item t u (Some x) held taken none shown = taken t u x shown.1 shown.2

module _ {S V O T : Type 0} (s : Ghosts S) (R : Stores V S) (o : Orders O) (f : List Pair → Option Item) (takes : Takes T) (item : T → Option Item) (tree : Tree V O) (space : S) where
  pub copied_item : (t u : T) (held : Bool) → ((t u : T) (x : Item) (more : Bool) → takes t x u more → item u ≡ Some x) → item t ≡ None → ShowsItem s R o f takes tree space held t u → AnswersPairs s R o f tree space (item u)
  copied_item t u held taken none shows = λ ps means. copied takes item t u (f ps) held taken none (shows ps means)

-- a step at most, counted anew
pub asks_one : {S V O : Type 0} (s : Ghosts S) (R : Stores V S) (o : Orders O) (t u : Tree V O) (start steps' : ℕ) (old new : S) → start ≡ 0 → Asks s R o 1 t u start steps' old new → (steps : ℕ) → Asks s R o 1 t u steps (steps + 1) old new
asks_one s R o t u start steps' old new none a steps = record {
  reads = a.reads;
  looks = a.looks;
  pages = record {
    ticks = record {
      rises = omega arith;
      enough = ⊎_elim (λ (so : R.gets u.store + start ≤ R.gets t.store + steps'). inl (omega (arith, so, a.pages.within, none))) (λ (full : 2 ^ 64 - 1 ≤ steps'). absurd (omega (arith, full, a.pages.within, none))) a.pages.ticks.enough;
    };
    within = omega arith;
  };
  stays = a.stays;
}
