-- What was found of the records that were reached, of more of them and in a space that reads as it did.
use Rattle.std.proofs.Common.{◌≡◌, ◌∙◌, inl, inr, ℕ, ◌+◌, List, [], ◌++◌, length, refl, sym, subst, arith, Some}
use Rattle.std.specs.Prelude.{slice_get}
use Rattle.hf_survey.specs.declared.facts.Fact.{Fact}
use Rattle.hf_survey.specs.declared.reaching.Item.{Item}
use Rattle.hf_survey.specs.declared.judging.Verdict.{Verdict}
use Rattle.hf_survey.specs.declared.judging.Verdict.TheVariants.{InOrder, Stray, Mixed}
use Rattle.hf_survey.specs.Reaching.{IsHomeBy}
use Rattle.hf_survey.specs.Orders.{IsBetweenBy, HasMixed, HasStray, Judged}
use Rattle.hf_survey.proofs.Lists.{get_before, get_behind, get_either, get_low}

in_order_stray : InOrder ≡ Stray → ⊥
in_order_stray e = cc

in_order_mixed : InOrder ≡ Mixed → ⊥
in_order_mixed e = cc

stray_mixed : Stray ≡ Mixed → ⊥
stray_mixed e = cc

-- none was reached
pub judged_none : (tells : Type 0) (facts : List Fact) (file : List ℕ) → Judged tells facts [] 0 file InOrder
judged_none tells facts file = record {
  home = λ ne k x low. absurd (omega (arith, low));
  stray = λ e. absurd (in_order_stray e);
  between = λ e t k x low. absurd (omega (arith, low));
  mixed = λ e. absurd (in_order_mixed e);
}

pub judged_at : (tells : Type 0) (facts : List Fact) (items : List Item) (count : ℕ) (now old : List ℕ) (v : Verdict) → (tells → now ≡ old) → Judged tells facts items count now v → Judged tells facts items count old v
judged_at tells facts items count now old v same j = record {
  home = j.home;
  stray = j.stray;
  between = λ e t k x low at. subst (λ (l : List ℕ). IsBetweenBy facts x l) (same t) (j.between e t k x low at);
  mixed = λ e t. subst (λ (l : List ℕ). HasMixed facts items l) (same t) (j.mixed e t);
}

-- ---- what is found in the end

pub found_stray : (tells : Type 0) (facts : List Fact) (items : List Item) (file : List ℕ) → (k : ℕ) (x : Item) → slice_get items k ≡ Some x → (IsHomeBy facts x → ⊥) → Judged tells facts items (length items) file Stray
found_stray tells facts items file k x at bad = record {
  home = λ ne. absurd (ne (λ i. Stray));
  stray = λ e. (k, x, at, bad);
  between = λ e. absurd (in_order_stray (sym e));
  mixed = λ e. absurd (stray_mixed e);
}

pub found_mixed : (tells : Type 0) (facts : List Fact) (items : List Item) (file : List ℕ) → ((k : ℕ) (x : Item) → slice_get items k ≡ Some x → IsHomeBy facts x) → (tells → HasMixed facts items file) → Judged tells facts items (length items) file Mixed
found_mixed tells facts items file home bad = record {
  home = λ ne k x low at. home k x at;
  stray = λ e. absurd (stray_mixed (sym e));
  between = λ e. absurd (in_order_mixed (sym e));
  mixed = λ e t. bad t;
}

pub found_in_order : (tells : Type 0) (facts : List Fact) (items : List Item) (file : List ℕ) → ((k : ℕ) (x : Item) → slice_get items k ≡ Some x → IsHomeBy facts x) → (tells → (k : ℕ) (x : Item) → slice_get items k ≡ Some x → IsBetweenBy facts x file) → Judged tells facts items (length items) file InOrder
found_in_order tells facts items file home between = record {
  home = λ ne k x low at. home k x at;
  stray = λ e. absurd (in_order_stray e);
  between = λ e t k x low at. between t k x at;
  mixed = λ e. absurd (in_order_mixed e);
}

-- ---- of these records and others before them

stray_behind : (facts : List Fact) (others items : List Item) → HasStray facts items → HasStray facts (others ++ items)
stray_behind facts others items w = (length others + w.0, w.1, get_behind others items w.0 ∙ w.2, w.3)

mixed_behind : (facts : List Fact) (others items : List Item) (file : List ℕ) → HasMixed facts items file → HasMixed facts (others ++ items) file
mixed_behind facts others items file w = (length others + w.0, w.1, get_behind others items w.0 ∙ w.2, w.3)

-- what is true of each of the others and of each of these
each_of : (P : Item → Type 0) (others items : List Item) → ((k : ℕ) (x : Item) → slice_get others k ≡ Some x → P x) → ((k : ℕ) (x : Item) → slice_get items k ≡ Some x → P x) → (k : ℕ) (x : Item) → slice_get (others ++ items) k ≡ Some x → P x
each_of P others items old new k x at = elim (get_either others items k x at) [ inl o ↦ old k x o | inr o ↦ new o.0 x o.1 ]

module _ (tells : Type 0) (facts : List Fact) (others items : List Item) (file : List ℕ) where
  pub after_order : (v : Verdict) → Judged tells facts items (length items) file v → Judged tells facts others (length others) file InOrder → Judged tells facts (others ++ items) (length (others ++ items)) file v
  after_order v now old = record {
    home = λ ne k x low. each_of (λ z. IsHomeBy facts z) others items (λ i y at. old.home in_order_stray i y (get_low others i y at) at) (λ i y at. now.home ne i y (get_low items i y at) at) k x;
    stray = λ e. stray_behind facts others items (now.stray e);
    between = λ e t k x low. each_of (λ z. IsBetweenBy facts z file) others items (λ i y at. old.between refl t i y (get_low others i y at) at) (λ i y at. now.between e t i y (get_low items i y at) at) k x;
    mixed = λ e t. mixed_behind facts others items file (now.mixed e t);
  }

  pub after_stray : Judged tells facts others (length others) file Stray → Judged tells facts (others ++ items) (length (others ++ items)) file Stray
  after_stray old = let n = old.stray refl in found_stray tells facts (others ++ items) file n.0 n.1 (get_before others items n.0 n.1 n.2) n.3

  pub after_mixed : ((k : ℕ) (x : Item) → slice_get items k ≡ Some x → IsHomeBy facts x) → Judged tells facts others (length others) file Mixed → Judged tells facts (others ++ items) (length (others ++ items)) file Mixed
  after_mixed home old = found_mixed tells facts (others ++ items) file
      (each_of (λ z. IsHomeBy facts z) others items (λ i y at. old.home (λ e. stray_mixed (sym e)) i y (get_low others i y at) at) home)
      (λ t. let n = old.mixed refl t in (n.0, n.1, get_before others items n.0 n.1 n.2, n.3))

  pub stray_after : HasStray facts items → Judged tells facts (others ++ items) (length (others ++ items)) file Stray
  stray_after w = let n = stray_behind facts others items w in found_stray tells facts (others ++ items) file n.0 n.1 n.2 n.3
