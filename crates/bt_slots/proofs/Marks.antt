-- A value of an item found from where another was.
use Rattle.std.proofs.Common.{◌≡◌, ◌≢◌, ℕ, zero, suc, ◌-◌, ◌<◌, ◌≤◌, List, [], ◌∷◌, length, take, drop, Option, Some, None, refl, sym, ap, subst, ◌∙◌, arith}
use Rattle.std.specs.Prelude.{slice_get}
use Rattle.std.specs.List.{flat_map}
use Rattle.std.proofs.lemmas.List.{take-append-drop}
use Rattle.bt_page.specs.declared.page.Item.{Item}
use Rattle.bt_page.specs.Pages.{value_bytes, ItemFits}
use Rattle.bt_slots.specs.Lying.{behind_values}
use Rattle.bt_slots.specs.declared.marking.Mark.{Mark}
use Rattle.bt_slots.specs.Marks.{Moves, StandsAt, further_bytes}
use Rattle.bt_slots.specs.Reads.{value_in, values_in}
use Rattle.bt_slots.specs.Slots.{ArePartsOf}
use Rattle.bt_slots.proofs.BareReads.{values_long}
use Rattle.bt_slots.proofs.Pieces.{item_copied}
use Rattle.bt_slots.proofs.Spans.{EndsWith, begins_drop, behind_none}

-- ---- places in the bytes of further values

pub stands_first : (bytes : List ℕ) → StandsAt 0 0 bytes
stands_first bytes = record { within = omega arith; begins = behind_none bytes }

-- what is left behind some bytes ends them
pub dropped_ends : (bytes rest : List ℕ) (n : ℕ) → rest ≡ drop n bytes → EndsWith bytes rest
dropped_ends bytes rest n is = subst (EndsWith bytes) (sym is) (record { front = take n bytes; is = sym (take-append-drop n bytes) })

pub stands_end : (n i : ℕ) (bytes rest : List ℕ) → i ≡ n → rest ≡ behind_values i bytes → EndsWith bytes rest → StandsAt n (length bytes - length rest) bytes
stands_end n i bytes rest e at ends = record { within = omega arith; begins = begins_drop bytes rest ends ∙ at ∙ ap (λ (k : ℕ). behind_values k bytes) e }

-- ---- where the mark is then

pub stays_first : (place n : ℕ) (found : Option (List ℕ)) (m : Mark) → n ≡ 0 → Moves place n found m m
stays_first place zero found m e = refl
stays_first place (suc n) found m e = absurd (omega (arith, e))

pub stays_none : (place n : ℕ) (m : Mark) → Moves place n None m m
stays_none place zero m = refl
stays_none place (suc n) m = refl

pub moves_on : (place n : ℕ) (value : List ℕ) (old new : Mark) → n ≢ 0 → new.place ≡ place → new.number ≡ n - 1 → Moves place n (Some value) old new
moves_on place zero value old new some e is = absurd (some refl)
moves_on place (suc n) value old new some e is = (e, omega (arith, is))

-- ---- values of an item

pub nth_is : (n i : ℕ) (bytes : List ℕ) → i < n → slice_get (values_in n bytes).0 i ≡ Some (value_in (behind_values i bytes)).0
unfolding values_in
nth_is zero i bytes lt = absurd (omega (arith, lt))
nth_is (suc n) zero bytes lt = refl
nth_is (suc n) (suc i) bytes lt = nth_is n i (value_in bytes).1 (omega (arith, lt))

none_past : (xs : List (List ℕ)) (i : ℕ) → length xs ≤ i → slice_get xs i ≡ None
none_past [] i le = refl
none_past (x ∷ xs) zero le = absurd (omega (arith, le))
none_past (x ∷ xs) (suc i) le = none_past xs i (omega (arith, le))

module _ (x : Item) (key first further : List ℕ) (more : ℕ) (fits : ItemFits x) (p : ArePartsOf x key first more further) where
  -- the bytes of its parts are those of its values
  pub further_is : further_bytes x ≡ further
  further_is = ap (λ (vs : List (List ℕ)). flat_map value_bytes (drop 1 vs)) p.values_are ∙ sym p.further_are

  values_are : x.values ≡ first ∷ (values_in more further).0
  values_are = sym (ap (λ (i : Item). i.values) (item_copied x key first more further (first ∷ (values_in more further).0) fits p refl))

  pub nth_first : (n : ℕ) → n ≡ 0 → Some first ≡ slice_get x.values n
  nth_first n e = sym (ap (λ (k : ℕ). slice_get x.values k) e ∙ ap (λ (vs : List (List ℕ)). slice_get vs 0) values_are)

  pub nth_none : (n : ℕ) → more < n → None ≡ slice_get x.values n
  nth_none n lt = sym (ap (λ (vs : List (List ℕ)). slice_get vs n) values_are ∙ none_past (first ∷ (values_in more further).0) n (omega (arith, lt, values_long more further)))

  pub nth_more : (n offset : ℕ) (value : List ℕ) → n ≢ 0 → n ≤ more → StandsAt (n - 1) offset further → value ≡ (value_in (drop offset further)).0 → Some value ≡ slice_get x.values n
  nth_more zero offset value some le at is = absurd (some refl)
  nth_more (suc m) offset value some le at is =
      let same : suc m - 1 ≡ m = omega arith in
      let there : value ≡ (value_in (behind_values m further)).0 = is ∙ ap (λ (l : List ℕ). (value_in l).0) (at.begins ∙ ap (λ (k : ℕ). behind_values k further) same) in
      sym (ap (λ (vs : List (List ℕ)). slice_get vs (suc m)) values_are ∙ nth_is more m further (omega (arith, le)) ∙ ap (λ (v : List ℕ). Some v) (sym there))
