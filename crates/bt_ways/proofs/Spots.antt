-- Searches in one page.
use Rattle.std.proofs.Common.{◌≡◌, ◌≢◌, ℕ, zero, suc, ◌-◌, ◌<◌, ◌≤◌, List, [], ◌∷◌, ◌++◌, Bool, true, false, not, Some, length, map, refl, sym, ap, ◌∙◌, subst, ⊎_elim, arith, slice_index_or}
use Rattle.std.specs.Prelude.{slice_get, ⊤}
use Rattle.std.proofs.lemmas.Grind.{flat_map-append}
use Rattle.std.proofs.lemmas.List.{append-nil}
use Rattle.std.proofs.lemmas.Slice.Eq.{bytes_eq-Decides}
use Rattle.tc_base.specs.Texts.{is_text}
use Rattle.std.specs.List.{AllByRecursion, flat_map}
use Rattle.std.specs.List.Sorted.{IsPartitionedBy, IsPartitionPoint}
use Rattle.tc_base.specs.declared.seq.Pair.{Pair}
use Rattle.tc_base.specs.Lists.{pair}
use Rattle.bt_page.specs.Pages.{HasValue}
use Rattle.bt_page.specs.declared.page.NodeEntry.{NodeEntry}
use Rattle.bt_page.specs.declared.page.Item.{Item}
use Rattle.bt_rows.specs.Between.{KeysAscend}
use Rattle.bt_rows.specs.Orders.{Before, IsOrder}
use Rattle.bt_rows.specs.Rules.{Ascends, item_pairs}
use Rattle.bt_ways.specs.Items.{item_of}
use Rattle.bt_ways.specs.Searches.{IsPlace, IsRoute, IsSpot, child_at}
use Rattle.bt_ways.proofs.Keys.{either, clash, all_map, all_items}
use Rattle.bt_ways.proofs.Values.{Parts}

-- ---- what stands at a place

pub got_at : {X : Type 0} (xs : List X) (i : ℕ) (d : X) → i < length xs → slice_get xs i ≡ Some (slice_index_or xs i d)
got_at [] i d lt = absurd (omega (arith, lt))
got_at (x ∷ xs) zero d lt = refl
got_at (x ∷ xs) (suc i) d lt = got_at xs i d (omega (arith, lt))

pub item_of_place : (xs : List Item) (i : ℕ) → i < length xs → (x : Item) × (slice_get xs i ≡ Some x)
item_of_place xs i lt = (slice_index_or xs i (record { key = []; values = [] }), got_at xs i (record { key = []; values = [] }) lt)

-- ---- the page behind so many entries

child_suc : (heir : ℕ) (entries : List NodeEntry) (i child : ℕ) → i < length entries → ((e : NodeEntry) → slice_get entries i ≡ Some e → child ≡ e.child) → child ≡ child_at heir entries (suc i)
child_suc heir [] i child lt is = absurd (omega (arith, lt))
child_suc heir (x ∷ xs) zero child lt is = is x refl
child_suc heir (x ∷ xs) (suc i) child lt is = child_suc x.child xs i child (omega (arith, lt)) (λ e get. is e get)

pub child_behind : (heir : ℕ) (entries : List NodeEntry) (place child : ℕ) → place ≢ 0 → place ≤ length entries → ((e : NodeEntry) → slice_get entries (place - 1) ≡ Some e → child ≡ e.child) → child ≡ child_at heir entries place
child_behind heir entries place child ne le is =
    let k : place ≡ suc (place - 1) = omega (arith, ne) in
    subst (λ (q : ℕ). child ≡ child_at heir entries q) (sym k) (child_suc heir entries (place - 1) child (omega (arith, ne, le)) is)

-- ---- by halves

pub place_of : (before : Before) (key : List ℕ) (xs : List Item) (place : ℕ) → IsPartitionPoint (λ x. before x.key key ≡ true) (λ x. before x.key key ≡ false) xs place → IsPlace before xs key place
place_of before key xs place p = record { low = λ i d lt. p.0 i d (omega arith) lt; high = λ d lt. p.1 place d (omega arith) lt }

at_each : {X : Type 0} (P : X → Type 0) (xs : List X) → AllByRecursion P xs → (j : ℕ) (d : X) → j < length xs → P (slice_index_or xs j d)
at_each P [] h j d lt = absurd (omega (arith, lt))
at_each P (x ∷ xs) h zero d lt = h.0
at_each P (x ∷ xs) h (suc j) d lt = at_each P xs h.1 j d (omega (arith, lt))

-- what passes a test keeps it towards the front, where keys ascend
module _ {X : Type 0} (key_of : X → List ℕ) (before : Before) where
  abbrev pub Rise : List X → Type 0
  Rise [] = ⊤
  Rise (x ∷ xs) = AllByRecursion (λ y. before (key_of x) (key_of y) ≡ true) xs × Rise xs

  pub parted : (p : X → Bool) → ((x y : X) → before (key_of x) (key_of y) ≡ true → p y ≡ true → p x ≡ true) → (xs : List X) → Rise xs → IsPartitionedBy p xs
  parted p back [] rise i j d le lt h = absurd (omega (arith, lt))
  parted p back (x ∷ xs) rise zero zero d le lt h = h
  parted p back (x ∷ xs) rise zero (suc j) d le lt h = back x (slice_index_or xs j d) (at_each (λ y. before (key_of x) (key_of y) ≡ true) xs rise.0 j d (omega (arith, lt))) h
  parted p back (x ∷ xs) rise (suc i) zero d le lt h = absurd (omega (arith, le))
  parted p back (x ∷ xs) rise (suc i) (suc j) d le lt h = parted p back xs rise.1 i j d (omega (arith, le)) (omega (arith, lt)) h

not_true : (b : Bool) → not b ≡ true → b ≡ false
not_true true e = absurd (cc)
not_true false e = refl

not_false : (b : Bool) → not b ≡ false → b ≡ true
not_false true e = refl
not_false false e = absurd (cc)

false_not : (b : Bool) → b ≡ false → not b ≡ true
false_not b e = rw e refl

-- these items are so many below a key, its own with these values if it is held, and those above it
pub record Around (before : Before) (key : List ℕ) (items : List Item) (place : ℕ) (its : List Item) (vs : List (List ℕ)) : Type 0 where
  pub front : List Item
  pub back : List Item
  pub are : items ≡ front ++ (its ++ back)
  pub at : length front ≡ place
  pub low : AllByRecursion (λ x. before x.key key ≡ true) front
  pub high : AllByRecursion (λ x. before key x.key ≡ true) back
  pub own : flat_map item_pairs its ≡ map (pair key) vs

-- so are their pairs
abbrev pub parts_of_around : (before : Before) (key : List ℕ) (items : List Item) (place : ℕ) (its : List Item) (vs : List (List ℕ)) → Around before key items place its vs → Parts before key (flat_map item_pairs items)
parts_of_around before key items place its vs a = record {
  front = flat_map item_pairs a.front;
  own = vs;
  back = flat_map item_pairs a.back;
  are = ap (flat_map item_pairs) a.are ∙ flat_map-append item_pairs a.front (its ++ a.back)
      ∙ ap (λ (t : List Pair). flat_map item_pairs a.front ++ t) (flat_map-append item_pairs its a.back ∙ ap (λ (t : List Pair). t ++ flat_map item_pairs a.back) a.own);
  low = all_items (λ k. before k key ≡ true) a.front a.low;
  high = all_items (λ k. before key k ≡ true) a.back a.high;
}

module _ (before : Before) (order : IsOrder before) where
  pub entries_rise : (es : List NodeEntry) → KeysAscend before es → Rise (λ (e : NodeEntry). e.key) before es
  entries_rise [] h = tt
  entries_rise (e ∷ es) h = (h.0, entries_rise es h.1)

  pub items_rise : (xs : List Item) → Ascends before xs → Rise (λ (x : Item). x.key) before xs
  items_rise [] h = tt
  items_rise (x ∷ xs) h = (h.0, items_rise xs h.1)

  pub entries_parted : (key : List ℕ) (es : List NodeEntry) → KeysAscend before es → IsPartitionedBy (λ e. not (before key e.key)) es
  entries_parted key es h = parted (λ (e : NodeEntry). e.key) before (λ e. not (before key e.key))
      (λ x y lt low. false_not (before key x.key) (⊎_elim (λ (up : before key x.key ≡ true). absurd (clash (before key y.key) (order.trans key x.key y.key up lt) (not_true (before key y.key) low))) (λ (is : before key x.key ≡ false). is) (either (before key x.key))))
      es (entries_rise es h)

  pub items_parted : (key : List ℕ) (xs : List Item) → Ascends before xs → IsPartitionedBy (λ x. before x.key key) xs
  items_parted key xs h = parted (λ (x : Item). x.key) before (λ x. before x.key key) (λ x y lt low. order.trans x.key y.key key lt low) xs (items_rise xs h)

  pub route_of : (key : List ℕ) (es : List NodeEntry) (place : ℕ) → place ≤ length es → IsPartitionPoint (λ e. not (before key e.key) ≡ true) (λ e. not (before key e.key) ≡ false) es place → IsRoute before es key place
  route_of key es place within point = record {
    within = within;
    low = λ i d lt. not_true (before key (slice_index_or es i d).key) (point.0 i d (omega arith) lt);
    high = λ d lt. not_false (before key (slice_index_or es place d).key) (point.1 place d (omega arith) lt);
  }

  -- past the end
  pub spot_end : (key : List ℕ) (xs : List Item) (place : ℕ) → place ≡ length xs → IsPlace before xs key place → IsSpot before xs key place false
  spot_end key xs place at point = record {
    within = omega (arith, at);
    low = λ i d lt. point.low i d lt;
    inside = λ e. absurd (cc);
    there = λ d e. absurd (cc);
    high = λ d e lt. absurd (omega (arith, lt, at));
  }

  -- at an item
  pub spot_here : (key : List ℕ) (xs : List Item) (place : ℕ) (hit : Bool) → place < length xs → ((d : Item) → (hit ≡ true → (slice_index_or xs place d).key ≡ key) × (hit ≡ false → (slice_index_or xs place d).key ≢ key))
      → IsPlace before xs key place → IsSpot before xs key place hit
  spot_here key xs place hit lt test point = record {
    within = omega (arith, lt);
    low = λ i d less. point.low i d less;
    inside = λ e. lt;
    there = λ d e. (test d).0 e;
    high = λ d e less.
        ⊎_elim (λ (up : before key (slice_index_or xs place d).key ≡ true). up)
        (λ (no : before key (slice_index_or xs place d).key ≡ false). absurd ((test d).1 e (order.total (slice_index_or xs place d).key key (point.high d less) no)))
        (either (before key (slice_index_or xs place d).key));
  }

  -- where its key was compared
  pub spot_compared : (key : List ℕ) (xs : List Item) (place : ℕ) (hit : Bool) (seen : List ℕ) → place < length xs → ((x : Item) → slice_get xs place ≡ Some x → seen ≡ x.key) → hit ≡ is_text seen key
      → IsPlace before xs key place → IsSpot before xs key place hit
  spot_compared key xs place hit seen lt is test point = spot_here key xs place hit lt
      (λ d. let same : seen ≡ (slice_index_or xs place d).key = is (slice_index_or xs place d) (got_at xs place d lt) in (
        λ yes_hit. sym same ∙ (bytes_eq-Decides seen key).0 (sym test ∙ yes_hit),
        λ no_hit same_key. absurd (clash hit (test ∙ (bytes_eq-Decides seen key).1 (same ∙ same_key)) no_hit),
      )) point

  -- ---- the items of one key in a leaf

  -- the key's own item, if it is held, and its values
  abbrev own_items : List Item → ℕ → Bool → List Item
  own_items [] place hit = []
  own_items (x ∷ xs) zero true = x ∷ []
  own_items (x ∷ xs) zero false = []
  own_items (x ∷ xs) (suc i) hit = own_items xs i hit

  abbrev pub own_at : List Item → ℕ → Bool → List (List ℕ)
  own_at [] place hit = []
  own_at (x ∷ xs) zero true = x.values
  own_at (x ∷ xs) zero false = []
  own_at (x ∷ xs) (suc i) hit = own_at xs i hit

  above_all : (key : List ℕ) (x : Item) (xs : List Item) → AllByRecursion (λ y. before x.key y.key ≡ true) xs → before key x.key ≡ true → AllByRecursion (λ y. before key y.key ≡ true) xs
  above_all key x xs h lt = all_map (λ y. before x.key y.key ≡ true) (λ y. before key y.key ≡ true) xs (λ y k. order.trans key x.key y.key lt k) h

  around_at : (key : List ℕ) (xs : List Item) (place : ℕ) (hit : Bool) → Ascends before xs → IsSpot before xs key place hit → Around before key xs place (own_items xs place hit) (own_at xs place hit)
  around_at key [] place hit asc s = record { front = []; back = []; are = refl; at = omega (arith, s.within); low = tt; high = tt; own = refl }
  around_at key (x ∷ xs) zero true asc s =
      let k : x.key ≡ key = s.there x refl in
      record {
        front = [];
        back = xs;
        are = refl;
        at = refl;
        low = tt;
        high = subst (λ (t : List ℕ). AllByRecursion (λ y. before t y.key ≡ true) xs) k asc.0;
        own = append-nil (item_pairs x) ∙ ap (λ (t : List ℕ). map (pair t) x.values) k;
      }
  around_at key (x ∷ xs) zero false asc s =
      let up : before key x.key ≡ true = s.high x refl (omega arith) in
      record { front = []; back = x ∷ xs; are = refl; at = refl; low = tt; high = (up, above_all key x xs asc.0 up); own = refl }
  around_at key (x ∷ xs) (suc i) hit asc s =
      let rest = around_at key xs i hit asc.1 (record {
        within = omega (arith, s.within);
        low = λ j d lt. s.low (suc j) d (omega (arith, lt));
        inside = λ e. omega (arith, s.inside e);
        there = λ d e. s.there d e;
        high = λ d e lt. s.high d e (omega (arith, lt));
      }) in
      record {
        front = x ∷ rest.front;
        back = rest.back;
        are = ap (λ (t : List Item). x ∷ t) rest.are;
        at = ap suc rest.at;
        low = (s.low 0 x (omega arith), rest.low);
        high = rest.high;
        own = rest.own;
      }

  pub parts_at : (key : List ℕ) (xs : List Item) (place : ℕ) (hit : Bool) → Ascends before xs → IsSpot before xs key place hit → (p : Parts before key (flat_map item_pairs xs)) × (p.own ≡ own_at xs place hit)
  parts_at key xs place hit asc s = (parts_of_around before key xs place (own_items xs place hit) (own_at xs place hit) (around_at key xs place hit asc s), refl)

  pub own_miss : (xs : List Item) (place : ℕ) → own_at xs place false ≡ []
  own_miss [] place = refl
  own_miss (x ∷ xs) zero = refl
  own_miss (x ∷ xs) (suc i) = own_miss xs i

  own_item : (xs : List Item) (place : ℕ) (x : Item) → slice_get xs place ≡ Some x → own_items xs place true ≡ x ∷ []
  own_item [] place x e = absurd (cc)
  own_item (y ∷ ys) zero x e = let same : y ≡ x = cc in ap (λ (z : Item). z ∷ []) same
  own_item (y ∷ ys) (suc i) x e = own_item ys i x e

  none_own : (xs : List Item) (place : ℕ) → own_items xs place false ≡ []
  none_own [] place = refl
  none_own (x ∷ xs) zero = refl
  none_own (x ∷ xs) (suc i) = none_own xs i

  pub own_hit : (xs : List Item) (place : ℕ) (x : Item) → slice_get xs place ≡ Some x → own_at xs place true ≡ x.values
  own_hit [] place x e = absurd (cc)
  own_hit (y ∷ ys) zero x e = let same : y ≡ x = cc in ap (λ (z : Item). z.values) same
  own_hit (y ∷ ys) (suc i) x e = own_hit ys i x e

  pub get_at : (xs : List Item) (place : ℕ) (x d : Item) → slice_get xs place ≡ Some x → slice_index_or xs place d ≡ x
  get_at [] place x d e = absurd (cc)
  get_at (y ∷ ys) zero x d e = cc
  get_at (y ∷ ys) (suc i) x d e = get_at ys i x d e

  pub get_all : (P : Item → Type 0) (xs : List Item) (place : ℕ) (x : Item) → AllByRecursion P xs → slice_get xs place ≡ Some x → P x
  get_all P [] place x h e = absurd (cc)
  get_all P (y ∷ ys) zero x h e = let same : y ≡ x = cc in subst P same h.0
  get_all P (y ∷ ys) (suc i) x h e = get_all P ys i x h.1 e

  pub key_there : (key : List ℕ) (xs : List Item) (place : ℕ) (x : Item) → slice_get xs place ≡ Some x → IsSpot before xs key place true → x.key ≡ key
  key_there key xs place x e s = ap (λ (z : Item). z.key) (sym (get_at xs place x x e)) ∙ s.there x refl

  -- the item under the place is the key's
  pub item_there : (key : List ℕ) (xs : List Item) (place : ℕ) (x : Item) → AllByRecursion HasValue xs → IsSpot before xs key place true → slice_get xs place ≡ Some x → item_of key (own_at xs place true) ≡ Some x
  item_there key xs place x some s e =
      ap (item_of key) (own_hit xs place x e) ∙ named x.key x.values (key_there key xs place x e s) (get_all HasValue xs place x some e)
    where
      named : (k : List ℕ) (vs : List (List ℕ)) → k ≡ key → 0 < length vs → item_of key vs ≡ Some (record { key = k; values = vs })
      named k [] e lt = absurd (omega (arith, lt))
      named k (v ∷ vs) e lt = ap (λ (t : List ℕ). Some (record { key = t; values = v ∷ vs })) (sym e)

  -- around a key that isn't held
  pub around_none : (key : List ℕ) (xs : List Item) (place : ℕ) → Ascends before xs → IsSpot before xs key place false → Around before key xs place [] []
  around_none key xs place asc s =
      subst (λ (t : List Item). Around before key xs place t []) (none_own xs place)
      (subst (λ (t : List (List ℕ)). Around before key xs place (own_items xs place false) t) (own_miss xs place) (around_at key xs place false asc s))

  -- around the item that it is
  pub around_held : (key : List ℕ) (xs : List Item) (place : ℕ) (x : Item) → slice_get xs place ≡ Some x → Ascends before xs → IsSpot before xs key place true → Around before key xs place (x ∷ []) x.values
  around_held key xs place x e asc s =
      subst (λ (t : List Item). Around before key xs place t x.values) (own_item xs place x e)
      (subst (λ (t : List (List ℕ)). Around before key xs place (own_items xs place true) t) (own_hit xs place x e) (around_at key xs place true asc s))
