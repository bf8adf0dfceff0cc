-- A stretch of keys in one page.
use Rattle.std.proofs.Common.{◌≡◌, ◌≢◌, ◌⊎◌, ℕ, zero, suc, ◌+◌, ◌-◌, ◌<◌, ◌≤◌, List, [], ◌∷◌, ◌++◌, Bool, true, false, Some, length, map, take, drop, get_or, refl, sym, ap, ◌∙◌, subst, inl, inr, ⊎_elim, arith, append_assoc, length-append, length-drop, slice_index_or}
use Rattle.std.specs.Prelude.{slice_get}
use Rattle.std.specs.List.{AllByRecursion, flat_map}
use Rattle.std.specs.List.Sorted.{IsPartitionedBy, IsPartitionPoint}
use Rattle.std.specs.declared.cmp.Ordering.{Ordering}
use Rattle.std.specs.Cmp.{IsTotalOrder}
use Rattle.std.proofs.lemmas.Grind.{flat_map-append}
use Rattle.std.proofs.lemmas.List.{append-nil, get_or-drop, map-append, take_all, take_more, take-append-drop}
use Rattle.std.proofs.lemmas.Option.{get_or_from_slice_get}
use Rattle.std.proofs.lemmas.Map.Lookups.{CmpEqualImpliesEq}
use Rattle.tc_base.specs.Lists.{pair}
use Rattle.tc_base.specs.Orders.{NeverFalls}
use Rattle.tc_base.specs.declared.order.Side.{Side}
use Rattle.tc_base.specs.declared.order.Side.TheVariants as sides
use Rattle.tc_base.specs.declared.seq.Pair.{Pair}
use Rattle.tc_space.specs.Changes.{is_inside}
use Rattle.bt_page.specs.Pages.{HasValue}
use Rattle.bt_page.specs.declared.page.NodeEntry.{NodeEntry}
use Rattle.bt_page.specs.declared.page.Item.{Item}
use Rattle.bt_page.specs.declared.page.Leaf.{Leaf}
use Rattle.bt_rows.specs.Between.{KeysAscend}
use Rattle.bt_rows.specs.Orders.{before_by}
use Rattle.bt_rows.specs.Rules.{Ascends, item_pairs}
use Rattle.bt_rows.proofs.Ordered.{orders_are_strict}
use Rattle.bt_tree.specs.Ranging.{is_front, is_from, start_of, IsAdded, IsFilled, IsScanned, IsStart, StartsOutside}
use Rattle.bt_ways.specs.Searches.{IsRoute}
use Rattle.bt_ways.proofs.Keys.{all_items, all_join, all_pairs, all_part}
use Rattle.bt_tree.proofs.Sorted.{le_of}
use Rattle.bt_ways.proofs.Spots.{parted, item_of_place, entries_rise, items_rise}
use Rattle.bt_tree.proofs.Stretches.{front_rank, rank_on}

not_from : (s : Side) → is_front s ≡ true → is_from s ≡ false
not_from sides.Before e = refl
not_from sides.Inside e = absurd (cc)
not_from sides.After e = absurd (cc)

not_front : (s : Side) → is_front s ≡ false → is_from s ≡ true
not_front sides.Before e = absurd (cc)
not_front sides.Inside e = refl
not_front sides.After e = refl

all_take : {X : Type 0} (P : X → Type 0) (xs : List X) (n : ℕ) → n ≤ length xs → ((i : ℕ) (d : X) → i < n → P (slice_index_or xs i d)) → AllByRecursion P (take n xs)
all_take P xs zero le h = tt
all_take P [] (suc n) le h = absurd (omega (arith, le))
all_take P (x ∷ xs) (suc n) le h = (h 0 x (omega arith), all_take P xs n (omega (arith, le)) (λ i d lt. h (suc i) d (omega (arith, lt))))

all_drop : {X : Type 0} (P : X → Type 0) (xs : List X) (n : ℕ) → ((i : ℕ) (d : X) → n ≤ i → i < length xs → P (slice_index_or xs i d)) → AllByRecursion P (drop n xs)
all_drop P [] zero h = tt
all_drop P [] (suc n) h = tt
all_drop P (x ∷ xs) zero h = (h 0 x (omega arith) (omega arith), all_drop P xs zero (λ i d le lt. h (suc i) d (omega arith) (omega (arith, lt))))
all_drop P (x ∷ xs) (suc n) h = all_drop P xs n (λ i d le lt. h (suc i) d (omega (arith, le)) (omega (arith, lt)))

pub some_behind : (xs : List Item) (n : ℕ) → AllByRecursion HasValue xs → AllByRecursion HasValue (drop n xs)
some_behind xs n h = (all_part HasValue (take n xs) (drop n xs) (subst (λ (t : List Item). AllByRecursion HasValue t) (sym (take-append-drop n xs)) h)).1

-- an item of one value goes in
pub filled_one : (max : ℕ) (x : Item) (old : List Pair) (key value : List ℕ) → key ≡ x.key → Some value ≡ slice_get x.values 0 → length x.values ≤ 1 → length old < max → IsFilled max x old (old ++ pair key value ∷ []) true
filled_one max x old key value named first few room = record {
  went = 1;
  grown = ap (λ (t : List Pair). old ++ t) (ap (λ (k : List ℕ). pair k value ∷ []) named ∙ ap (map (pair x.key)) (sym (ap (take 1) (lone x.values first few))));
  whole = λ e. ap (take 1) (lone x.values first few) ∙ sym (lone x.values first few);
  full = λ e. absurd cc;
  room = λ le. omega (arith, room, length-append old (pair key value ∷ []));
}
  where
    lone : (vs : List (List ℕ)) → Some value ≡ slice_get vs 0 → length vs ≤ 1 → vs ≡ value ∷ []
    lone [] e le = absurd cc
    lone (v ∷ []) e le = let same : value ≡ v = cc in ap (λ (w : List ℕ). w ∷ []) (sym same)
    lone (v ∷ w ∷ vs) e le = absurd (omega (arith, le))

module _ (cmp : List ℕ → List ℕ → Ordering) (total : IsTotalOrder cmp) (exact : CmpEqualImpliesEq cmp) (side : List ℕ → Side) (falls : NeverFalls cmp side) where
  kept : (x y : List ℕ) → before_by cmp x y ≡ true → is_front (side y) ≡ true → is_front (side x) ≡ true
  kept x y lt e = front_rank (side x) (side y) (rank_on side cmp exact falls x y (le_of cmp total exact x y lt)) (not_from (side y) e)

  pub entries_cut : (es : List NodeEntry) → KeysAscend (before_by cmp) es → IsPartitionedBy (λ e. is_front (side e.key)) es
  entries_cut es h = parted (λ (e : NodeEntry). e.key) (before_by cmp) (λ e. is_front (side e.key)) (λ x y lt e. kept x.key y.key lt e) es (entries_rise (before_by cmp) (orders_are_strict cmp total exact) es h)

  pub items_cut : (xs : List Item) → Ascends (before_by cmp) xs → IsPartitionedBy (λ x. is_front (side x.key)) xs
  items_cut xs h = parted (λ (x : Item). x.key) (before_by cmp) (λ x. is_front (side x.key)) (λ x y lt e. kept x.key y.key lt e) xs (items_rise (before_by cmp) (orders_are_strict cmp total exact) xs h)

module _ (side : List ℕ → Side) where
  pub route_cut : (es : List NodeEntry) (place : ℕ) → place ≤ length es → IsPartitionPoint (λ e. is_front (side e.key) ≡ true) (λ e. is_front (side e.key) ≡ false) es place → IsRoute (start_of side) es [] place
  route_cut es place within point = record {
    within = within;
    low = λ i d lt. not_from (side (slice_index_or es i d).key) (point.0 i d (omega arith) lt);
    high = λ d lt. not_front (side (slice_index_or es place d).key) (point.1 place d (omega arith) lt);
  }

  pub start_cut : (xs : List Item) (place : ℕ) → place ≤ length xs → IsPartitionPoint (λ x. is_front (side x.key) ≡ true) (λ x. is_front (side x.key) ≡ false) xs place → IsStart side xs place
  start_cut xs place within point = record {
    front = all_take (λ x. is_front (side x.key) ≡ true) xs place within (λ i d lt. point.0 i d (omega arith) lt);
    others = all_drop (λ x. is_from (side x.key) ≡ true) xs place (λ i d le lt. not_front (side (slice_index_or xs i d).key) (point.1 i d le lt));
  }

  -- ---- pairs that go in

  module _ (max : ℕ) where
    -- so many items went in whole
    pub record Adding (xs : List Item) (old : List Pair) (i : ℕ) (now : List Pair) : Type 0 where
      pub grown : now ≡ old ++ flat_map item_pairs (take i xs)
      pub inside : AllByRecursion (λ x. is_inside (side x.key) ≡ true) (take i xs)
      pub room : length old ≤ max → length now ≤ max

    pub adding_none : (xs : List Item) (old : List Pair) → Adding xs old 0 old
    adding_none xs old = record { grown = sym (append-nil old); inside = tt; room = λ le. le }

    module _ (xs : List Item) (old now : List Pair) (i : ℕ) (a : Adding xs old i now) where
      went_inside : AllByRecursion (λ p. is_inside (side p.key) ≡ true) (flat_map item_pairs (take i xs))
      went_inside = all_items (λ k. is_inside (side k) ≡ true) (take i xs) a.inside

      pub adding_all : length xs ≤ i → IsAdded side max (flat_map item_pairs xs) old now true
      adding_all end =
          let all : take i xs ≡ xs = take_all i xs end in
          record {
            went = flat_map item_pairs xs;
            left = [];
            are = sym (append-nil (flat_map item_pairs xs));
            inside = subst (λ (t : List Item). AllByRecursion (λ p. is_inside (side p.key) ≡ true) (flat_map item_pairs t)) all went_inside;
            grown = a.grown ∙ ap (λ (t : List Item). old ++ flat_map item_pairs t) all;
            whole = λ e. refl;
            ended = λ e. absurd cc;
            room = a.room;
          }

      module _ (x : Item) (lt : i < length xs) (is : x ≡ get_or xs i x) where
        here : take (i + 1) xs ≡ take i xs ++ x ∷ []
        here = take_more xs i x lt ∙ ap (λ (y : Item). take i xs ++ y ∷ []) (sym is)

        parts : flat_map item_pairs xs ≡ flat_map item_pairs (take i xs) ++ (item_pairs x ++ flat_map item_pairs (drop (i + 1) xs))
        parts =
            ap (flat_map item_pairs) (sym (take-append-drop (i + 1) xs) ∙ ap (λ (t : List Item). t ++ drop (i + 1) xs) here ∙ append_assoc (take i xs) (x ∷ []) (drop (i + 1) xs))
            ∙ flat_map-append item_pairs (take i xs) (x ∷ drop (i + 1) xs)

        pub adding_more : (now' : List Pair) → is_inside (side x.key) ≡ true → IsFilled max x now now' true → Adding xs old (i + 1) now'
        adding_more now' yes_inside f = record {
          grown =
              f.grown ∙ ap (λ (vs : List (List ℕ)). now ++ map (pair x.key) vs) (f.whole refl) ∙ ap (λ (t : List Pair). t ++ item_pairs x) a.grown ∙ append_assoc old (flat_map item_pairs (take i xs)) (item_pairs x)
              ∙ ap (λ (t : List Pair). old ++ t) (sym (ap (flat_map item_pairs) here ∙ flat_map-append item_pairs (take i xs) (x ∷ []) ∙ ap (λ (t : List Pair). flat_map item_pairs (take i xs) ++ t) (append-nil (item_pairs x))));
          inside = subst (λ (t : List Item). AllByRecursion (λ y. is_inside (side y.key) ≡ true) t) (sym here) (all_join (λ y. is_inside (side y.key) ≡ true) (take i xs) (x ∷ []) a.inside (yes_inside, tt));
          room = λ le. f.room (a.room le);
        }

        pub adding_full : (now' : List Pair) → is_inside (side x.key) ≡ true → IsFilled max x now now' false → IsAdded side max (flat_map item_pairs xs) old now' false
        adding_full now' yes_inside f = record {
          went = flat_map item_pairs (take i xs) ++ map (pair x.key) (take f.went x.values);
          left = map (pair x.key) (drop f.went x.values) ++ flat_map item_pairs (drop (i + 1) xs);
          are =
              parts ∙ ap (λ (vs : List (List ℕ)). flat_map item_pairs (take i xs) ++ (map (pair x.key) vs ++ flat_map item_pairs (drop (i + 1) xs))) (sym (take-append-drop f.went x.values))
              ∙ ap (λ (t : List Pair). flat_map item_pairs (take i xs) ++ (t ++ flat_map item_pairs (drop (i + 1) xs))) (map-append (pair x.key) (take f.went x.values) (drop f.went x.values))
              ∙ rearrange (flat_map item_pairs (take i xs)) (map (pair x.key) (take f.went x.values)) (map (pair x.key) (drop f.went x.values)) (flat_map item_pairs (drop (i + 1) xs));
          inside = all_join (λ p. is_inside (side p.key) ≡ true) (flat_map item_pairs (take i xs)) (map (pair x.key) (take f.went x.values)) went_inside (all_pairs (λ k. is_inside (side k) ≡ true) x.key (take f.went x.values) yes_inside);
          grown = f.grown ∙ ap (λ (t : List Pair). t ++ map (pair x.key) (take f.went x.values)) a.grown ∙ append_assoc old (flat_map item_pairs (take i xs)) (map (pair x.key) (take f.went x.values));
          whole = λ e. absurd cc;
          ended = λ e. inl (f.full refl);
          room = λ le. f.room (a.room le);
        }
          where
            rearrange : (p q r t : List Pair) → p ++ ((q ++ r) ++ t) ≡ (p ++ q) ++ (r ++ t)
            rearrange p q r t = simp append_assoc

        pub adding_out : AllByRecursion HasValue xs → is_inside (side x.key) ≡ false → IsAdded side max (flat_map item_pairs xs) old now false
        adding_out some out = record {
          went = flat_map item_pairs (take i xs);
          left = item_pairs x ++ flat_map item_pairs (drop (i + 1) xs);
          are = parts;
          inside = went_inside;
          grown = a.grown;
          whole = λ e. absurd cc;
          ended = λ e. inr (leaves x.values (has xs i lt some is));
          room = a.room;
        }
          where
            has : (xs : List Item) (i : ℕ) → i < length xs → AllByRecursion HasValue xs → x ≡ get_or xs i x → HasValue x
            has [] i lt some is = absurd (omega (arith, lt))
            has (y ∷ ys) zero lt some is = subst HasValue (sym is) some.0
            has (y ∷ ys) (suc i) lt some is = has ys i (omega (arith, lt)) some.1 is

            leaves : (vs : List (List ℕ)) → 0 < length vs → StartsOutside side (map (pair x.key) vs ++ flat_map item_pairs (drop (i + 1) xs))
            leaves [] lt = absurd (omega (arith, lt))
            leaves (v ∷ vs) lt = record { first = pair x.key v; rest = map (pair x.key) vs ++ flat_map item_pairs (drop (i + 1) xs); are = refl; outside = out }

    -- so many items from a place on went in whole
    module _ (items : List Item) (old now : List Pair) (place i : ℕ) (from : place ≤ i) (a : Adding (drop place items) old (i - place) now) where
      pub placed_all : length items ≤ i → IsAdded side max (flat_map item_pairs (drop place items)) old now true
      placed_all end = adding_all (drop place items) old now (i - place) a (omega (arith, length-drop place items, end, from))

      module _ (lt : i < length items) (key : List ℕ) (named : (x : Item) → slice_get items i ≡ Some x → key ≡ x.key) where
        abbrev x : Item
        x = (item_of_place items i lt).0

        get : slice_get items i ≡ Some x
        get = (item_of_place items i lt).1

        at_it : x ≡ get_or (drop place items) (i - place) x
        at_it = sym (get_or-drop place items (i - place) x ∙ ap (λ (k : ℕ). get_or items k x) (omega (arith, from)) ∙ get_or_from_slice_get items i x x get)

        few : i - place < length (drop place items)
        few = omega (arith, length-drop place items, lt, from)

        at_key : (b : Bool) → is_inside (side key) ≡ b → is_inside (side x.key) ≡ b
        at_key b e = ap (λ (k : List ℕ). is_inside (side k)) (sym (named x get)) ∙ e

        pub placed_out : AllByRecursion HasValue (drop place items) → is_inside (side key) ≡ false → IsAdded side max (flat_map item_pairs (drop place items)) old now false
        placed_out some out = adding_out (drop place items) old now (i - place) a x few at_it some (at_key false out)

        module _ (now' : List Pair) (yes_inside : is_inside (side key) ≡ true) where
          pub placed_full : ((x : Item) → slice_get items i ≡ Some x → IsFilled max x now now' false) → IsAdded side max (flat_map item_pairs (drop place items)) old now' false
          placed_full f = adding_full (drop place items) old now (i - place) a x few at_it now' (at_key true yes_inside) (f x get)

          pub placed_more : ((x : Item) → slice_get items i ≡ Some x → IsFilled max x now now' true) → Adding (drop place items) old (i + 1 - place) now'
          placed_more f =
              subst (λ (k : ℕ). Adding (drop place items) old k now') (omega (arith, from)) (adding_more (drop place items) old now (i - place) a x few at_it now' (at_key true yes_inside) (f x get))

    -- a leaf from its first item that isn't in front
    pub leaf_scanned : (l : Leaf) (place : ℕ) (old new : List Pair) (all : Bool) (next : ℕ) → IsStart side l.items place → IsAdded side max (flat_map item_pairs (drop place l.items)) old new all
        → (next ≢ 0 → (all ≡ true) × (next ≡ l.next)) → (next ≡ 0 → (all ≡ false) ⊎ ((max ≤ length new) ⊎ ((all ≡ true) × (l.next ≡ 0)))) → IsScanned side max l old new next
    leaf_scanned l place old new all next s a on end = record {
      front = flat_map item_pairs (take place l.items);
      went = a.went;
      left = a.left;
      are = ap (flat_map item_pairs) (sym (take-append-drop place l.items)) ∙ flat_map-append item_pairs (take place l.items) (drop place l.items) ∙ ap (λ (t : List Pair). flat_map item_pairs (take place l.items) ++ t) a.are;
      skipped = all_items (λ k. is_front (side k) ≡ true) (take place l.items) s.front;
      inside = a.inside;
      from = (all_part (λ p. is_from (side p.key) ≡ true) a.went a.left (subst (λ (t : List Pair). AllByRecursion (λ p. is_from (side p.key) ≡ true) t) a.are (all_items (λ k. is_from (side k) ≡ true) (drop place l.items) s.others))).1;
      grown = a.grown;
      room = a.room;
      on = λ n. let o = on n in (a.whole o.0, o.1);
      ended = λ n. go (end n);
    }
      where
        go : (all ≡ false) ⊎ ((max ≤ length new) ⊎ ((all ≡ true) × (l.next ≡ 0))) → (max ≤ length new) ⊎ (((a.left ≡ []) × (l.next ≡ 0)) ⊎ StartsOutside side a.left)
        go (inl e) = ⊎_elim (λ full. inl full) (λ o. inr (inr o)) (a.ended e)
        go (inr (inl full)) = inl full
        go (inr (inr o)) = inr (inl (a.whole o.0, o.1))
