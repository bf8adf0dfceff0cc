-- Where one of the further values of an item stands, and the item with another in its place or without it.
use Rattle.std.proofs.Common.{◌≡◌, ℕ, zero, suc, ◌+◌, ◌-◌, ◌<◌, ◌≤◌, List, [], ◌∷◌, ◌++◌, length, take, drop, refl, sym, ap, subst, ◌∙◌, append_assoc, arith, add-one, length-append}
use Rattle.std.specs.Prelude.{Option, Some, None, IfSome, IfOk, Result, Ok, Err}
use Rattle.std.specs.List.{AllByRecursion, flat_map}
use Rattle.std.proofs.lemmas.Grind.{flat_map-append}
use Rattle.std.proofs.lemmas.List.{take_at, drop_at, append-nil, append_cancel_right, take-append-drop, length-take-le, length-drop}
use Rattle.std.proofs.lemmas.List.Elements.{All-from_recursion, recursion_from_All, All-append, All-take, All-drop}
use Rattle.tc_base.specs.Vnum.{vnum_at, fronted, vnum_front}
use Rattle.tc_base.specs.declared.number.NumErr.{NumErr}
use Rattle.tc_base.specs.declared.number.NumErr.TheVariants.{Short, Second, Wide}
use Rattle.bt_page.specs.declared.page.Item.{Item}
use Rattle.bt_page.specs.declared.page.Leaf.{Leaf}
use Rattle.bt_page.specs.Pages.{value_bytes, SizeFits, ItemFits}
use Rattle.bt_slots.specs.Lying.{IsSpanOf, behind_values, bytes_or_none, one_or_none, with_further, values_with_nth, more_with}
use Rattle.bt_slots.specs.Reads.{or_none, number_in, value_in, values_in}
use Rattle.bt_slots.specs.Slots.{ArePartsOf, HasValuesAt}
use Rattle.bt_slots.proofs.Changes.{IsItemOf}
use Rattle.bt_slots.proofs.ReadBack.{values_read}

-- the bytes end with these
pub record EndsWith (bytes rest : List ℕ) : Type 0 where
  pub front : List ℕ
  pub is : bytes ≡ front ++ rest

pub whole_ends : (bytes : List ℕ) → EndsWith bytes bytes
whole_ends bytes = record { front = []; is = refl }

pub later_ends : {a b c : List ℕ} → EndsWith a b → EndsWith b c → EndsWith a c
later_ends {c = c} p q = record { front = p.front ++ q.front; is = p.is ∙ ap (λ (l : List ℕ). p.front ++ l) q.is ∙ sym (append_assoc p.front q.front c) }

nothing_ends : (bytes : List ℕ) → EndsWith bytes []
nothing_ends bytes = record { front = bytes; is = sym (append-nil bytes) }

number_ends : (bytes : List ℕ) → EndsWith bytes (number_in bytes).1
unfolding number_in vnum_front
number_ends bytes = go (vnum_at bytes)
  where
    go : (r : Result (ℕ × ℕ) NumErr) → EndsWith bytes (or_none (fronted bytes r)).1
    go (Ok x) = record { front = take x.1 bytes; is = sym (take-append-drop x.1 bytes) }
    go (Err Short) = nothing_ends bytes
    go (Err Second) = nothing_ends bytes
    go (Err Wide) = nothing_ends bytes

pub value_ends : (bytes : List ℕ) → EndsWith bytes (value_in bytes).1
value_ends bytes =
    let x = number_in bytes in
    later_ends (number_ends bytes) (record { front = take x.0 x.1; is = sym (take-append-drop x.0 x.1) })

pub ends_short : {bytes rest : List ℕ} → EndsWith bytes rest → length rest ≤ length bytes
ends_short {rest = rest} p = omega (arith, ap length p.is, length-append p.front rest)

-- the place where they begin
module _ (bytes rest : List ℕ) (p : EndsWith bytes rest) where
  begins_long : length p.front ≡ length bytes - length rest
  begins_long = omega (arith, ap length p.is, length-append p.front rest)

  pub begins_drop : drop (length bytes - length rest) bytes ≡ rest
  begins_drop = ap (drop (length bytes - length rest)) p.is ∙ drop_at p.front rest (length bytes - length rest) begins_long

  pub begins_take : take (length bytes - length rest) bytes ++ rest ≡ bytes
  begins_take = ap (λ (l : List ℕ). l ++ rest) (ap (take (length bytes - length rest)) p.is ∙ take_at p.front rest (length bytes - length rest) begins_long) ∙ sym p.is

-- ---- values one behind the other

pub behind_more : (n : ℕ) (bytes : List ℕ) → behind_values (suc n) bytes ≡ (value_in (behind_values n bytes)).1
unfolding values_in
behind_more zero bytes = refl
behind_more (suc n) bytes = behind_more n (value_in bytes).1

pub behind_none : (bytes : List ℕ) → bytes ≡ behind_values 0 bytes
unfolding values_in
behind_none bytes = refl

-- what is behind one more of them
pub behind_next : (n : ℕ) (bytes rest value behind : List ℕ) → rest ≡ behind_values n bytes → ◌≡◌ {A = List ℕ × List ℕ} (value, behind) (value_in rest) → behind ≡ behind_values (suc n) bytes
behind_next n bytes rest value behind at is = ap (λ (x : List ℕ × List ℕ). x.1) is ∙ ap (λ (l : List ℕ). (value_in l).1) at ∙ sym (behind_more n bytes)

-- the same, with the number as a loop counts it
pub behind_step : (n : ℕ) (bytes rest value behind : List ℕ) → rest ≡ behind_values n bytes → ◌≡◌ {A = List ℕ × List ℕ} (value, behind) (value_in rest) → behind ≡ behind_values (n + 1) bytes
behind_step n bytes rest value behind at is = behind_next n bytes rest value behind at is ∙ ap (λ (k : ℕ). behind_values k bytes) (sym (add-one n))

pub ends_next : (bytes rest value behind : List ℕ) → EndsWith bytes rest → ◌≡◌ {A = List ℕ × List ℕ} (value, behind) (value_in rest) → EndsWith bytes behind
ends_next bytes rest value behind p is = later_ends p (subst (EndsWith rest) (sym (ap (λ (x : List ℕ × List ℕ). x.1) is)) (value_ends rest))

pub value_shorter : (rest value behind : List ℕ) → ◌≡◌ {A = List ℕ × List ℕ} (value, behind) (value_in rest) → EndsWith rest behind
value_shorter rest value behind is = subst (EndsWith rest) (sym (ap (λ (x : List ℕ × List ℕ). x.1) is)) (value_ends rest)

pub span_is : (n : ℕ) (bytes rest behind : List ℕ) → rest ≡ behind_values n bytes → behind ≡ behind_values (suc n) bytes → EndsWith bytes rest → EndsWith bytes behind
    → IsSpanOf n bytes (length bytes - length rest) (length bytes - length behind)
span_is n bytes rest behind at then p q = record {
  begins = begins_drop bytes rest p ∙ at;
  ends = begins_drop bytes behind q ∙ then;
  front = ap (λ (l : List ℕ). take (length bytes - length rest) bytes ++ l) (sym at) ∙ begins_take bytes rest p;
}

-- ---- one of an item's further values is another, or goes

module _ (n : ℕ) (vs : List (List ℕ)) (within : n ≤ length vs) where
  flat_parts : flat_map value_bytes vs ≡ flat_map value_bytes (take n vs) ++ flat_map value_bytes (drop n vs)
  flat_parts = ap (flat_map value_bytes) (sym (take-append-drop n vs)) ∙ flat_map-append value_bytes (take n vs) (drop n vs)

  behind_first : AllByRecursion SizeFits vs → behind_values n (flat_map value_bytes vs) ≡ flat_map value_bytes (drop n vs)
  behind_first sizes =
      let few : AllByRecursion SizeFits (take n vs) = recursion_from_All SizeFits (take n vs) (All-take SizeFits n vs (All-from_recursion SizeFits vs sizes)) in
      ap (behind_values n) flat_parts
      ∙ ap (λ (k : ℕ). behind_values k (flat_map value_bytes (take n vs) ++ flat_map value_bytes (drop n vs))) (sym (length-take-le n vs within))
      ∙ ap (λ (x : List (List ℕ) × List ℕ). x.1) (values_read (take n vs) (flat_map value_bytes (drop n vs)) few)

one_flat : (value : Option (List ℕ)) → bytes_or_none value ≡ flat_map value_bytes (one_or_none value)
one_flat None = refl
one_flat (Some v) = sym (append-nil (value_bytes v))

one_fits : (value : Option (List ℕ)) → IfSome value (λ v. SizeFits v) → AllByRecursion SizeFits (one_or_none value)
one_fits None h = tt
one_fits (Some v) h = (h, tt)

-- how many there are then
many_with : (n : ℕ) (value : Option (List ℕ)) (vs : List (List ℕ)) → n < length vs → more_with (length vs) value ≡ length (values_with_nth n value vs)
many_with n None vs within =
    omega (arith, within, length-append (take n vs) (drop (n + 1) vs), length-take-le n vs (omega (arith, within)), length-drop (n + 1) vs)
many_with n (Some v) vs within =
    omega (arith, within, length-append (take n vs) (v ∷ drop (n + 1) vs), length-take-le n vs (omega (arith, within)), length-drop (n + 1) vs)

few_with : (n : ℕ) (value : Option (List ℕ)) → more_with n value ≤ n
few_with n None = omega arith
few_with n (Some v) = omega arith

module _ (n : ℕ) (vs : List (List ℕ)) (within : n < length vs) (sizes : AllByRecursion SizeFits vs) where
  short : n ≤ length vs
  short = omega (arith, within)

  next : suc n ≤ length vs
  next = omega (arith, within)

  sizes_with : (value : Option (List ℕ)) → IfSome value (λ v. SizeFits v) → AllByRecursion SizeFits (values_with_nth n value vs)
  sizes_with value h =
      let all = All-from_recursion SizeFits vs sizes in
      recursion_from_All SizeFits (values_with_nth n value vs)
      (All-append SizeFits (take n vs) (one_or_none value ++ drop (n + 1) vs) (All-take SizeFits n vs all)
      (All-append SizeFits (one_or_none value) (drop (n + 1) vs) (All-from_recursion SizeFits (one_or_none value) (one_fits value h)) (All-drop SizeFits (n + 1) vs all)))

  module _ (r : List ℕ) (from to : ℕ) (is : r ≡ flat_map value_bytes vs) (span : IsSpanOf n r from to) where
    taken : take from r ≡ flat_map value_bytes (take n vs)
    taken = append_cancel_right (take from r) (flat_map value_bytes (take n vs)) (flat_map value_bytes (drop n vs))
        (ap (λ (l : List ℕ). take from r ++ l) (sym (ap (behind_values n) is ∙ behind_first n vs short sizes)) ∙ span.front ∙ is ∙ flat_parts n vs short)

    left : drop to r ≡ flat_map value_bytes (drop (n + 1) vs)
    left = span.ends ∙ ap (behind_values (suc n)) is ∙ behind_first (suc n) vs next sizes ∙ ap (λ (k : ℕ). flat_map value_bytes (drop k vs)) (sym (add-one n))

    further_is : (value : Option (List ℕ)) → with_further from to value r ≡ flat_map value_bytes (values_with_nth n value vs)
    further_is value =
        (λ i. taken i ++ (one_flat value i ++ left i))
        ∙ ap (λ (l : List ℕ). flat_map value_bytes (take n vs) ++ l) (sym (flat_map-append value_bytes (one_or_none value) (drop (n + 1) vs)))
        ∙ sym (flat_map-append value_bytes (take n vs) (one_or_none value ++ drop (n + 1) vs))

-- behind the first value they are numbered from 1
all_with_nth : (n : ℕ) (value : Option (List ℕ)) (f : List ℕ) (vs : List (List ℕ)) → values_with_nth (n + 1) value (f ∷ vs) ≡ f ∷ values_with_nth n value vs
all_with_nth n value f vs = λ i. take (add-one n i) (f ∷ vs) ++ (one_or_none value ++ drop (add-one (n + 1) i) (f ∷ vs))

pub nth_item : (i : Item) (k f r further : List ℕ) (m n l from to : ℕ) (value : Option (List ℕ)) → ItemFits i → ArePartsOf i k f m r → n + 1 < length i.values → IsSpanOf n r from to → IfSome value (λ v. SizeFits v)
    → l ≡ more_with m value → further ≡ with_further from to value r → IsItemOf (record { key = i.key; values = values_with_nth (n + 1) value i.values }) k f l further
nth_item i k f r further m n l from to value h p within span fits el ef =
    let vs = p.others in
    let less : n < length vs = omega (arith, within, ap length p.values_are) in
    let sizes : AllByRecursion SizeFits (f ∷ vs) = subst (AllByRecursion SizeFits) p.values_are h.values in
    let values : values_with_nth (n + 1) value i.values ≡ f ∷ values_with_nth n value vs = ap (values_with_nth (n + 1) value) p.values_are ∙ all_with_nth n value f vs in
    let many : more_with m value ≡ length (values_with_nth n value vs) = ap (λ (z : ℕ). more_with z value) p.count ∙ many_with n value vs less in
    record {
      fits = record {
        key = h.key;
        values = subst (AllByRecursion SizeFits) (sym values) (sizes.0, sizes_with n vs less sizes.1 value fits);
        some = omega (arith, ap length values);
        count = omega (arith, ap length values, many, few_with m value, p.count, ap length p.values_are, h.count);
      };
      parts = record {
        others = values_with_nth n value vs;
        key_is = p.key_is;
        values_are = values;
        count = el ∙ many;
        further_are = ef ∙ further_is n vs less sizes.1 r from to p.further_are span value;
      };
    }

-- the place is said in another way
pub at_place : {E : Type 0} (n m : ℕ) (value : Option (List ℕ)) (place : ℕ) (old : Leaf) (r : Result Leaf E) → n ≡ m
    → IfOk r (λ l. HasValuesAt (values_with_nth n value) place old l) → IfOk r (λ l. HasValuesAt (values_with_nth m value) place old l)
at_place n m value place old r same h = subst (λ (k : ℕ). IfOk r (λ l. HasValuesAt (values_with_nth k value) place old l)) same h
