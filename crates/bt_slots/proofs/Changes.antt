-- Changes of a leaf that is kept as its bytes, beside the places where its items begin.
use Rattle.std.proofs.Common.{◌≡◌, ℕ, suc, ◌+◌, ◌-◌, ◌<◌, ◌≤◌, ◌^◌, List, [], ◌∷◌, ◌++◌, length, map, take, drop, refl, sym, ap, subst, ◌∙◌, append_assoc, arith, add-one, length-append}
use Rattle.std.specs.List.{AllByRecursion, flat_map, insert, remove}
use Rattle.std.proofs.lemmas.List.{take_at, drop_at, length-take-le, append-nil}
use Rattle.std.proofs.lemmas.Grind.{flat_map-append}
use Rattle.tc_base.specs.Vnum.{vnum}
use Rattle.bt_page.specs.declared.page.Item.{Item}
use Rattle.bt_page.specs.declared.page.Leaf.{Leaf}
use Rattle.bt_page.specs.Pages.{value_bytes, item_bytes, leaf_bytes, spelled_item, SizeFits, ItemFits}
use Rattle.bt_slots.specs.Reads.{value_in}
use Rattle.bt_slots.specs.Changes.{spliced, HasItemAt}
use Rattle.bt_slots.specs.Slots.{parts_bytes, ArePartsOf, IsLeafIn, bytes_before}
use Rattle.bt_slots.proofs.Leaves.{pieced, put_row}
use Rattle.bt_slots.proofs.ReadBack.{value_read}
use Rattle.bt_page.proofs.Runs.{all_with}

-- a value behind an item that was added
pub value_behind : (a b c d k f r v : List ℕ) (m n : ℕ) → b ≡ a ++ parts_bytes k f m r → c ≡ b ++ vnum n → d ≡ c ++ v → n ≡ length v → d ≡ a ++ parts_bytes k f m (r ++ value_bytes v)
value_behind a b c d k f r v m n eb ec ed en =
    ed ∙ ap (λ (l : List ℕ). l ++ v) (ec ∙ ap (λ (o : ℕ). b ++ vnum o) en ∙ ap (λ (l : List ℕ). l ++ vnum (length v)) eb) ∙ simp append_assoc

-- ---- a place more or less

module _ (xs ys : List ℕ) (i x : ℕ) (lt : i ≤ length xs) (is : ys ≡ insert xs i x) where
  long : length (take i xs ++ x ∷ []) ≡ i + 1
  long = simp (length-append, length-take-le i xs lt) (omega arith)

  same : ys ≡ (take i xs ++ x ∷ []) ++ drop i xs
  same = is ∙ sym (append_assoc (take i xs) (x ∷ []) (drop i xs))

  pub inserted_behind : drop (i + 1) ys ≡ drop i xs
  inserted_behind = ap (drop (i + 1)) same ∙ drop_at (take i xs ++ x ∷ []) (drop i xs) (i + 1) long

  -- those behind it are moved
  pub inserted_shifted : (f : ℕ → ℕ) → take (i + 1) ys ++ map f (drop (i + 1) ys) ≡ take i xs ++ x ∷ map f (drop i xs)
  inserted_shifted f =
      let t : take (i + 1) ys ≡ take i xs ++ x ∷ [] = ap (take (i + 1)) same ∙ take_at (take i xs ++ x ∷ []) (drop i xs) (i + 1) long in
      (λ j. t j ++ map f (inserted_behind j)) ∙ append_assoc (take i xs) (x ∷ []) (map f (drop i xs))

pub removed_behind : (xs ys : List ℕ) (i : ℕ) → i < length xs → ys ≡ remove xs i → drop i ys ≡ drop (i + 1) xs
removed_behind xs ys i lt is =
    ap (drop i) is ∙ drop_at (take i xs) (drop (suc i) xs) i (length-take-le i xs (omega (arith, lt))) ∙ ap (λ (n : ℕ). drop n xs) (sym (add-one i))

-- ---- parts of items

-- an item without its first value
pub next_parts : (i : Item) (k f r v t : List ℕ) (m n : ℕ) → ItemFits i → 1 < length i.values → ArePartsOf i k f m r → v ≡ (value_in r).0 → t ≡ (value_in r).1 → n ≡ m - 1
    → ArePartsOf (record { key = i.key; values = drop 1 i.values }) k v n t
next_parts i k f r v t m n fits more p ev et en = go p.others p.values_are p.count p.further_are
  where
    go : (others : List (List ℕ)) → i.values ≡ f ∷ others → m ≡ length others → r ≡ flat_map value_bytes others → ArePartsOf (record { key = i.key; values = drop 1 i.values }) k v n t
    go [] is count further = absurd (omega (arith, more, ap length is))
    go (w ∷ ws) is count further =
        let sizes : AllByRecursion SizeFits (f ∷ w ∷ ws) = subst (AllByRecursion SizeFits) is fits.values in
        let read : value_in r ≡ (w, flat_map value_bytes ws) = ap value_in further ∙ value_read w (flat_map value_bytes ws) sizes.1.0 in
        let first : v ≡ w = ev ∙ ap (λ (x : List ℕ × List ℕ). x.0) read in
        record {
          others = ws;
          key_is = p.key_is;
          values_are = ap (drop 1) is ∙ ap (λ (z : List ℕ). z ∷ ws) (sym first);
          count = omega (arith, en, count);
          further_are = et ∙ ap (λ (x : List ℕ × List ℕ). x.1) read;
        }

-- the bytes of an item in parts
parts_are : (i : Item) (k f r : List ℕ) (m : ℕ) → ArePartsOf i k f m r → parts_bytes k f m r ≡ item_bytes i
unfolding item_bytes
parts_are i k f r m p =
    (λ j. parts_bytes (p.key_is j) f (p.count j) (p.further_are j)) ∙ ap (spelled_item i.key) (sym p.values_are)

pub parts_row : (i : Item) (k f r : List ℕ) (m : ℕ) → ArePartsOf i k f m r → parts_bytes k f m r ≡ flat_map item_bytes (i ∷ [])
parts_row i k f r m p = parts_are i k f r m p ∙ sym (append-nil (item_bytes i))

-- an item that fits, and its parts
pub record IsItemOf (i : Item) (k f : List ℕ) (m : ℕ) (r : List ℕ) : Type 0 where
  pub fits : ItemFits i
  pub parts : ArePartsOf i k f m r

pub has_item : (l : Leaf) (place : ℕ) (y : Item) (k f r : List ℕ) (m : ℕ) (old starts bytes new : List ℕ) (from to : ℕ) → IsLeafIn old starts l → place < length l.items → IsItemOf y k f m r → bytes ≡ old → from ≡ bytes_before l place → to ≡ bytes_before l (place + 1)
    → new ≡ spliced from to (parts_bytes k f m r) bytes → HasItemAt place l new y
has_item l place y k f r m old starts bytes new from to h lt p same ef et is = record {
  fits = p.fits;
  is = pieced l place (place + 1) (y ∷ []) old bytes (parts_bytes k f m r) new from to h.is same ef et (parts_row y k f r m p.parts) is ∙ ap leaf_bytes (sym (put_row l place y lt));
}

-- a new item of one value
pub new_item : (k v : List ℕ) → SizeFits k → SizeFits v → IsItemOf (record { key = k; values = v ∷ [] }) k v 0 []
new_item k v hk hv = record {
  fits = record { key = hk; values = (hv, tt); some = omega arith; count = omega arith };
  parts = record { others = []; key_is = refl; values_are = refl; count = refl; further_are = refl };
}

pub first_item : (i : Item) (k f r v : List ℕ) (m : ℕ) → ItemFits i → ArePartsOf i k f m r → SizeFits v → IsItemOf (record { key = i.key; values = v ∷ drop 1 i.values }) k v m r
first_item i k f r v m h p hv =
    let sizes : AllByRecursion SizeFits (f ∷ p.others) = subst (AllByRecursion SizeFits) p.values_are h.values in
    let others : drop 1 i.values ≡ p.others = ap (drop 1) p.values_are in
    record {
      fits = record {
        key = h.key;
        values = (hv, subst (AllByRecursion SizeFits) (sym others) sizes.1);
        some = omega arith;
        count = omega (arith, ap length others, ap length p.values_are, h.count);
      };
      parts = record { others = p.others; key_is = p.key_is; values_are = ap (λ (l : List (List ℕ)). v ∷ l) others; count = p.count; further_are = p.further_are };
    }

pub longer_item : (i : Item) (k f r v : List ℕ) (m n : ℕ) → ItemFits i → ArePartsOf i k f m r → SizeFits v → n ≡ m + 1 → n < 2 ^ 64 → IsItemOf (record { key = i.key; values = i.values ++ v ∷ [] }) k f n (r ++ value_bytes v)
longer_item i k f r v m n h p hv en within = record {
  fits = record {
    key = h.key;
    values = all_with SizeFits i.values v h.values hv;
    some = omega (arith, length-append i.values (v ∷ []));
    count = omega (arith, length-append i.values (v ∷ []), ap length p.values_are, p.count, en, within);
  };
  parts = record {
    others = p.others ++ v ∷ [];
    key_is = p.key_is;
    values_are = ap (λ (l : List (List ℕ)). l ++ v ∷ []) p.values_are;
    count = omega (arith, length-append p.others (v ∷ []), p.count, en);
    further_are = ap (λ (l : List ℕ). l ++ value_bytes v) p.further_are ∙ ap (λ (l : List ℕ). flat_map value_bytes p.others ++ l) (sym (append-nil (value_bytes v))) ∙ sym (flat_map-append value_bytes p.others (v ∷ []));
  };
}

pub shorter_item : (i : Item) (k f r : List ℕ) (m : ℕ) → ItemFits i → 1 < length i.values → ArePartsOf (record { key = i.key; values = drop 1 i.values }) k f m r → IsItemOf (record { key = i.key; values = drop 1 i.values }) k f m r
shorter_item i k f r m h more p = record { fits = go i.values h.values h.count more; parts = p }
  where
    go : (values : List (List ℕ)) → AllByRecursion SizeFits values → length values ≤ 2 ^ 64 → 1 < length values → ItemFits (record { key = i.key; values = drop 1 values })
    go [] all n more = absurd (omega (arith, more))
    go (v ∷ values) all n more = record { key = h.key; values = all.1; some = omega (arith, more); count = omega (arith, n) }
