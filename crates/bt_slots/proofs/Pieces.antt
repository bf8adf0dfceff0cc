-- The parts of an item, as they are read where it lies.
use Rattle.std.proofs.Common.{◌≡◌, ℕ, suc, ◌+◌, ◌-◌, ◌<◌, ◌≤◌, ◌^◌, List, [], ◌∷◌, ◌++◌, length, take, drop, refl, sym, ap, subst, ◌∙◌, append_assoc, arith, length-append}
use Rattle.std.specs.List.{AllByRecursion, flat_map}
use Rattle.std.proofs.lemmas.List.{take_at, drop_at, append-nil}
use Rattle.bt_page.specs.declared.page.Item.{Item}
use Rattle.bt_page.specs.Pages.{three, value_bytes, spelled_item, item_bytes, SizeFits, ItemFits}
use Rattle.tc_base.specs.Vnum.{vnum}
use Rattle.bt_page.proofs.AtFronts.{vnum_some}
use Rattle.bt_slots.specs.Reads.{number_in, second_in, third_in, value_in, with_value, values_in}
use Rattle.bt_slots.specs.Slots.{ArePartsOf}
use Rattle.bt_slots.proofs.ReadBack.{three_at, values_read}

module _ (bytes : List ℕ) (k v n : ℕ) (texts key rest first further : List ℕ)
    (key_size : k ≡ (number_in bytes).0) (size : v ≡ (second_in bytes).0) (count : ◌≡◌ {A = ℕ × List ℕ} (n, texts) (third_in bytes))
    (key_is : key ≡ take k texts) (rest_is : rest ≡ drop k texts) (first_is : first ≡ take v rest) (further_is : further ≡ drop v rest) where
  parts_at : (i : Item) (w : List ℕ) (ws : List (List ℕ)) → SizeFits i.key → SizeFits w → length ws < 2 ^ 64 → i.values ≡ w ∷ ws → bytes ≡ spelled_item i.key (w ∷ ws) → ArePartsOf i key first n further
  parts_at i w ws kf wf nf values is =
      let tail : List ℕ = w ++ flat_map value_bytes ws in
      let t = three_at (length i.key) (length w) (length ws) bytes (i.key ++ tail) kf wf nf is in
      let texts_are : texts ≡ i.key ++ tail = ap (λ (x : ℕ × List ℕ). x.1) (count ∙ t.2) in
      let rest_are : rest ≡ tail = rest_is ∙ (λ j. drop ((key_size ∙ t.0) j) (texts_are j)) ∙ drop_at i.key tail (length i.key) refl in
      let first_are : first ≡ w = first_is ∙ (λ j. take ((size ∙ t.1) j) (rest_are j)) ∙ take_at w (flat_map value_bytes ws) (length w) refl in
      record {
        others = ws;
        key_is = key_is ∙ (λ j. take ((key_size ∙ t.0) j) (texts_are j)) ∙ take_at i.key tail (length i.key) refl;
        values_are = values ∙ ap (λ (z : List ℕ). z ∷ ws) (sym first_are);
        count = ap (λ (x : ℕ × List ℕ). x.0) (count ∙ t.2);
        further_are = further_is ∙ (λ j. drop ((size ∙ t.1) j) (rest_are j)) ∙ drop_at w (flat_map value_bytes ws) (length w) refl;
      }

  pub parts_are : (i : Item) → ItemFits i → bytes ≡ item_bytes i → ArePartsOf i key first n further
  unfolding item_bytes
  parts_are i h is = go i.values refl h.values h.some h.count is
    where
      go : (values : List (List ℕ)) → i.values ≡ values → AllByRecursion SizeFits values → 0 < length values → length values ≤ 2 ^ 64 → bytes ≡ spelled_item i.key values → ArePartsOf i key first n further
      go [] e f some most is = absurd (omega (arith, some))
      go (w ∷ ws) e f some most is = parts_at i w ws h.key f.0 (omega (arith, most)) e is

-- ---- copies of values, one behind the other

values_step : (n i : ℕ) (rest : List ℕ) → i < n → values_in (n - i) rest ≡ with_value (value_in rest).0 (values_in (n - (i + 1)) (value_in rest).1)
unfolding values_in
values_step n i rest lt = let e : n - i ≡ suc (n - (i + 1)) = omega (arith, lt) in ap (λ (k : ℕ). values_in k rest) e

pub value_put : (values new : List (List ℕ)) (rest value behind : List ℕ) (all : List (List ℕ)) (n i : ℕ) → i < n → new ≡ values ++ value ∷ [] → ◌≡◌ {A = List ℕ × List ℕ} (value, behind) (value_in rest)
    → values ++ (values_in (n - i) rest).0 ≡ all → new ++ (values_in (n - (i + 1)) behind).0 ≡ all
value_put values new rest value behind all n i lt added is h =
    ap (λ (l : List (List ℕ)). l ++ (values_in (n - (i + 1)) behind).0) added
    ∙ append_assoc values (value ∷ []) (values_in (n - (i + 1)) behind).0
    ∙ ap (λ (z : List ℕ × List ℕ). values ++ z.0 ∷ (values_in (n - (i + 1)) z.1).0) is
    ∙ sym (ap (λ (x : List (List ℕ) × List ℕ). values ++ x.0) (values_step n i rest lt)) ∙ h

pub values_end : (values : List (List ℕ)) (rest : List ℕ) (all : List (List ℕ)) (n i : ℕ) → n ≤ i → values ++ (values_in (n - i) rest).0 ≡ all → values ≡ all
unfolding values_in
values_end values rest all n i le h =
    let e : n - i ≡ 0 = omega (arith, le) in
    sym (append-nil values) ∙ sym (ap (λ (k : ℕ). values ++ (values_in k rest).0) e) ∙ h

-- a copy of an item's parts is the item
pub item_copied : (i : Item) (key first : List ℕ) (n : ℕ) (further : List ℕ) (values : List (List ℕ)) → ItemFits i → ArePartsOf i key first n further → values ≡ (first ∷ []) ++ (values_in n further).0 → ◌≡◌ {A = Item} (record { key = key; values = values }) i
item_copied i key first n further values h p is =
    let shorts : AllByRecursion SizeFits (first ∷ p.others) = subst (AllByRecursion SizeFits) p.values_are h.values in
    let others : (values_in n further).0 ≡ p.others = (λ j. (values_in (p.count j) ((p.further_are ∙ sym (append-nil (flat_map value_bytes p.others))) j)).0) ∙ ap (λ (x : List (List ℕ) × List ℕ). x.0) (values_read p.others [] shorts.1) in
    let whole : values ≡ i.values = is ∙ ap (λ (l : List (List ℕ)). first ∷ l) others ∙ sym p.values_are in
    λ j. record { key = p.key_is j; values = whole j }

-- how many values an item has
flat_long : (vs : List (List ℕ)) → AllByRecursion SizeFits vs → length vs ≤ length (flat_map value_bytes vs)
flat_long [] h = omega arith
flat_long (v ∷ vs) h = omega (arith, flat_long vs h.1, vnum_some (length v) h.0, length-append (vnum (length v)) v, length-append (value_bytes v) (flat_map value_bytes vs))

pub count_is : (bytes rest : List ℕ) (x : Item) (n : ℕ) → ItemFits x → bytes ≡ item_bytes x ++ rest → length bytes < 2 ^ 64 → n ≡ (third_in bytes).0 → (n + 1 ≡ length x.values) × (n + 1 < 2 ^ 64)
unfolding item_bytes
count_is bytes rest x n h is short e = go x.values h.values h.some h.count is
  where
    go : (values : List (List ℕ)) → AllByRecursion SizeFits values → 0 < length values → length values ≤ 2 ^ 64 → bytes ≡ spelled_item x.key values ++ rest → (n + 1 ≡ length values) × (n + 1 < 2 ^ 64)
    go [] f some most is = absurd (omega (arith, some))
    go (w ∷ ws) f some most is =
        let head : List ℕ = three (length x.key) (length w) (length ws) in
        let tail : List ℕ = x.key ++ (w ++ flat_map value_bytes ws) in
        let t = three_at (length x.key) (length w) (length ws) bytes (tail ++ rest) h.key f.0 (omega (arith, most)) (is ∙ append_assoc head tail rest) in
        let same : n ≡ length ws = e ∙ ap (λ (z : ℕ × List ℕ). z.0) t.2 in
        let long : length ws + 2 ≤ length bytes = omega (
          arith,
          ap length is,
          length-append (head ++ tail) rest,
          length-append head tail,
          length-append x.key (w ++ flat_map value_bytes ws),
          length-append w (flat_map value_bytes ws),
          flat_long ws f.1,
          length-append (vnum (length x.key)) (vnum (length w) ++ vnum (length ws)),
          length-append (vnum (length w)) (vnum (length ws)),
          vnum_some (length x.key) h.key,
          vnum_some (length w) f.0,
        ) in
        (omega (arith, same), omega (arith, same, long, short))
