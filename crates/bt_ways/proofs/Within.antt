-- Items within the limits of a leaf.
use Rattle.std.proofs.Common.{◌≡◌, ℕ, zero, suc, append-nil, ◌+◌, ◌-◌, ◌/◌, ◌<◌, ◌≤◌, List, [], ◌∷◌, ◌++◌, Bool, append_assoc, arith, drop, length, length-append, sym, ap, ◌∙◌, subst, take, ⊎_elim}
use Rattle.std.proofs.lemmas.Grind.{flat_map-append}
use Rattle.std.proofs.lemmas.Bool.{cases_lt}
use Rattle.std.proofs.lemmas.List.{drop-drop, drop_at, take-append-drop, take_at}
use Rattle.std.specs.List.{AllByRecursion, flat_map}
use Rattle.std.specs.declared.cmp.Ordering.{Ordering}
use Rattle.tc_base.specs.Vnum.{groups, vnum}
use Rattle.tc_base.proofs.Vnums.{groups-high, groups-low}
use Rattle.bt_page.specs.Limits.{LeafWithin}
use Rattle.bt_page.specs.Pages.{HasValue, item_bytes, spelled_item, value_bytes}
use Rattle.bt_page.specs.declared.page.Item.{Item}
use Rattle.bt_page.specs.declared.page.Leaf.{Leaf}
use Rattle.bt_ways.specs.Changes.{IsChanged, IsOver, IsTaken, ItemsWithin}
use Rattle.bt_ways.proofs.Keys.{all_part}

-- ---- a part of what is within the limits is

bytes_of : (xs ys : List Item) → length (flat_map item_bytes (xs ++ ys)) ≡ length (flat_map item_bytes xs) + length (flat_map item_bytes ys)
bytes_of xs ys = ap length (flat_map-append item_bytes xs ys) ∙ length-append (flat_map item_bytes xs) (flat_map item_bytes ys)

front_within : (limit : ℕ) (xs ys : List Item) → ItemsWithin limit (xs ++ ys) → ItemsWithin limit xs
front_within limit xs ys w = let all = length-append xs ys in record { keys = omega (arith, w.keys, all); bytes = λ two. omega (arith, w.bytes (omega (arith, two, all)), bytes_of xs ys) }

back_within : (limit : ℕ) (xs ys : List Item) → ItemsWithin limit (xs ++ ys) → ItemsWithin limit ys
back_within limit xs ys w = let all = length-append xs ys in record { keys = omega (arith, w.keys, all); bytes = λ two. omega (arith, w.bytes (omega (arith, two, all)), bytes_of xs ys) }

-- the links of a leaf don't count
pub items_within : (limit : ℕ) (l : Leaf) → LeafWithin limit l → ItemsWithin limit l.items
items_within limit l w = record { keys = w.keys; bytes = w.bytes }

pub leaf_within : (limit prev next : ℕ) (items : List Item) → ItemsWithin limit items → LeafWithin limit (record { prev = prev; next = next; items = items })
leaf_within limit prev next items w = record { keys = w.keys; bytes = w.bytes }

-- items that are parted in three are all there
pub parts_join : (i j : ℕ) (items : List Item) → i ≤ j → take i items ++ (take (j - i) (drop i items) ++ drop j items) ≡ items
parts_join i j items le =
    ap (λ (t : List Item). take i items ++ (take (j - i) (drop i items) ++ t)) (sym (drop-drop (j - i) i items ∙ ap (λ (n : ℕ). drop n items) (omega (arith, le))))
    ∙ ap (λ (t : List Item). take i items ++ t) (take-append-drop (j - i) (drop i items))
    ∙ take-append-drop i items

-- ---- where a pair came in

-- the items around its key are within the limits if all were
pub over_changed : (cmp : List ℕ → List ℕ → Ordering) (last : Bool) (key value : List ℕ) (old new : List Item) (place : ℕ) (grown : Bool) (limit : ℕ) → IsChanged cmp last key value old new place grown
    → ItemsWithin limit old → 4 ≤ limit → (ItemsWithin limit new → ⊥) → IsOver limit new place
over_changed cmp last key value old new place grown limit c w least over =
    let sizes : length new ≡ length c.front + (1 + length c.back) = ap length c.new_is ∙ length-append c.front (c.item ∷ c.back) ∙ omega arith in
    record {
      least = least;
      keys = omega (arith, sizes, fewer.0, w.keys);
      inside = omega (arith, sizes, c.place_is);
      front = subst (λ (t : List Item). ItemsWithin limit t) (sym (ap (take place) c.new_is ∙ take_at c.front (c.item ∷ c.back) place (sym c.place_is))) fewer.1;
      back = subst (λ (t : List Item). ItemsWithin limit t) (sym (behind c.front c.item c.back c.place_is c.new_is)) fewer.2;
      over = over;
    }
  where
    fewer : (length c.front + length c.back ≤ length old) × ItemsWithin limit c.front × ItemsWithin limit c.back
    fewer = ⊎_elim
        (λ (is : old ≡ c.front ++ c.back).
        let v = subst (λ (t : List Item). ItemsWithin limit t) is w in
        (omega (arith, ap length is, length-append c.front c.back), front_within limit c.front c.back v, back_within limit c.front c.back v))
        (λ (is : (was : Item) × (was.key ≡ key) × (old ≡ c.front ++ was ∷ c.back)).
        let v = subst (λ (t : List Item). ItemsWithin limit t) is.2 w in
        (omega (arith, ap length is.2, length-append c.front (is.0 ∷ c.back)), front_within limit c.front (is.0 ∷ c.back) v, back_within limit (is.0 ∷ []) c.back (back_within limit c.front (is.0 ∷ c.back) v)))
        c.old_is

    behind : (front : List Item) (item : Item) (back : List Item) → place ≡ length front → new ≡ front ++ item ∷ back → drop (place + 1) new ≡ back
    behind front item back at is =
        ap (drop (place + 1)) (is ∙ sym (append_assoc front (item ∷ []) back))
        ∙ drop_at (front ++ item ∷ []) back (place + 1) (omega (arith, at, length-append front (item ∷ [])))

-- ---- where pairs went out

-- a greater number has no fewer bytes
groups_less : (most m n : ℕ) → m ≤ n → length (groups most m) ≤ length (groups most n)
unfolding groups
groups_less zero m n le = omega arith
groups_less (suc most) m n le = ⊎_elim
    (λ (low : m < 128). ⊎_elim
    (λ (lower : n < 128). omega (arith, ap length (groups-low most m low), ap length (groups-low most n lower)))
    (λ (high : 128 ≤ n). omega (arith, ap length (groups-low most m low), ap length (groups-high most n high)))
    (cases_lt n 128))
    (λ (high : 128 ≤ m). omega (arith, ap length (groups-high most m high), ap length (groups-high most n (omega (arith, high, le))), groups_less most (m / 128) (n / 128) (omega (arith, le))))
    (cases_lt m 128)

vnum_less : (m n : ℕ) → m ≤ n → length (vnum m) ≤ length (vnum n)
unfolding vnum
vnum_less m n le = groups_less 10 m n le

-- the bytes of an item, sizes first
pub spelled_size : (key v : List ℕ) (more : List (List ℕ)) → length (spelled_item key (v ∷ more)) ≡ length (vnum (length key)) + length (vnum (length v)) + length (vnum (length more)) + length key + length v + length (flat_map value_bytes more)
spelled_size key v more = go (vnum (length key)) (vnum (length v)) (vnum (length more)) key v (flat_map value_bytes more)
  where
    go : (a b c d e f : List ℕ) → length ((a ++ (b ++ c)) ++ (d ++ (e ++ f))) ≡ length a + length b + length c + length d + length e + length f
    go a b c d e f = simp (length-append) (omega arith)

item_less : (x : Item) → 0 < length (drop 1 x.values) → length (item_bytes (record { key = x.key; values = drop 1 x.values })) ≤ length (item_bytes x)
unfolding item_bytes
item_less x lt = go x.values lt
  where
    go : (vs : List (List ℕ)) → 0 < length (drop 1 vs) → length (spelled_item x.key (drop 1 vs)) ≤ length (spelled_item x.key vs)
    go [] lt = absurd (omega (arith, lt))
    go (v ∷ []) lt = absurd (omega (arith, lt))
    go (v ∷ w ∷ more) lt = omega (
      arith,
      spelled_size x.key w more,
      spelled_size x.key v (w ∷ more),
      length-append (value_bytes w) (flat_map value_bytes more),
      length-append (vnum (length w)) w,
      vnum_less (length more) (suc (length more)) (omega arith),
    )

-- the items stay within the limits
pub taken_within : (cmp : List ℕ → List ℕ → Ordering) (all : Bool) (key : List ℕ) (old new : List Item) (gone limit : ℕ) → IsTaken cmp all key old new gone → ItemsWithin limit old → ItemsWithin limit new
taken_within cmp all key old new gone limit t w =
    let keys : length new ≤ length old = omega (arith, less.0, ap length t.old_is, ap length t.new_is, length-append t.front (t.its ++ t.back), length-append t.its t.back, length-append t.front (t.left ++ t.back), length-append t.left t.back) in
    record {
      keys = omega (arith, keys, w.keys);
      bytes = λ two. omega (
        arith,
        less.1,
        w.bytes (omega (arith, two, keys)),
        ap (λ (xs : List Item). length (flat_map item_bytes xs)) t.old_is,
        ap (λ (xs : List Item). length (flat_map item_bytes xs)) t.new_is,
        bytes_of t.front (t.its ++ t.back),
        bytes_of t.its t.back,
        bytes_of t.front (t.left ++ t.back),
        bytes_of t.left t.back,
      );
    }
  where
    has : AllByRecursion HasValue t.left
    has = (all_part HasValue t.left t.back (all_part HasValue t.front (t.left ++ t.back) (subst (λ (xs : List Item). AllByRecursion HasValue xs) t.new_is t.items.some)).1).0

    one : (x : Item) → length (flat_map item_bytes (x ∷ [])) ≡ length (item_bytes x)
    one x = ap length (append-nil (item_bytes x))

    less : (length t.left ≤ length t.its) × (length (flat_map item_bytes t.left) ≤ length (flat_map item_bytes t.its))
    less = ⊎_elim
        (λ (is : t.left ≡ []). (omega (arith, ap length is), omega (arith, ap (λ (xs : List Item). length (flat_map item_bytes xs)) is)))
        (λ (is : (was : Item) × (t.its ≡ was ∷ []) × (t.left ≡ record { key = was.key; values = drop 1 was.values } ∷ [])).
        let some = subst (λ (xs : List Item). AllByRecursion HasValue xs) is.2 has in (
          omega (arith, ap length is.1, ap length is.2),
          omega (arith, ap (λ (xs : List Item). length (flat_map item_bytes xs)) is.1, ap (λ (xs : List Item). length (flat_map item_bytes xs)) is.2, one is.0, one (record { key = is.0.key; values = drop 1 is.0.values }), item_less is.0 some.0),
        ))
        t.left_is
