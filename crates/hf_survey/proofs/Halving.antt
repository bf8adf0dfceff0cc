-- A place looked for among facts that ascend.
use Rattle.std.proofs.Common.{◌≡◌, ◌∙◌, ◌⊎◌, inl, inr, ℕ, ◌+◌, ◌<◌, ◌≤◌, List, length, sym, ap, arith, Some, add-one}
use Rattle.std.specs.Prelude.{slice_get}
use Rattle.std.proofs.lemmas.Bool.{cases_eq, cases_lt}
use Rattle.hf_survey.specs.declared.facts.Fact.{Fact}
use Rattle.hf_survey.specs.Facts.{Ascend, IsListedAt, spot, place_in}
use Rattle.hf_survey.proofs.Lists.{same_item, get_low}

pub under_more : (facts : List Fact) (place mid i : ℕ) (m x : Fact) → Ascend facts → slice_get facts mid ≡ Some m → m.place < place → slice_get facts i ≡ Some x → i < mid + 1 → x.place < place
under_more facts place mid i m x rises at less is low = elim (cases_eq i mid) [
  | inl e ↦ (let s = same_item (slice_get facts mid) x m (ap (slice_get facts) (sym e) ∙ is) at in omega (arith, less, ap (λ (z : Fact). z.place) s))
  | inr ne ↦ (let l = rises i mid x m is at (omega (arith, low, ne)) in omega (arith, l, less))
]

pub over_more : (facts : List Fact) (place mid i : ℕ) (m x : Fact) → Ascend facts → slice_get facts mid ≡ Some m → place < m.place → slice_get facts i ≡ Some x → mid ≤ i → place < x.place
over_more facts place mid i m x rises at more is high = elim (cases_eq i mid) [
  | inl e ↦ (let s = same_item (slice_get facts mid) x m (ap (slice_get facts) (sym e) ∙ is) at in omega (arith, more, ap (λ (z : Fact). z.place) s))
  | inr ne ↦ (let l = rises mid i m x at is (omega (arith, high, ne)) in omega (arith, l, more))
]

pub not_found : (facts : List Fact) (place low high : ℕ) → high ≤ low → ((i : ℕ) (x : Fact) → slice_get facts i ≡ Some x → i < low → x.place < place) → ((i : ℕ) (x : Fact) → slice_get facts i ≡ Some x → high ≤ i → place < x.place) → IsListedAt facts place → ⊥
not_found facts place low high met under over w = elim (cases_lt w.0 low) [
  | inl less ↦ (let u = under w.0 w.1 w.2 less in omega (arith, u, w.3))
  | inr more ↦ (let o = over w.0 w.1 w.2 (omega (arith, more, met)) in omega (arith, o, w.3))
]

-- the number of a fact that was found
pub found_spot : (facts : List Fact) (i place : ℕ) (x : Fact) → slice_get facts i ≡ Some x → x.place ≡ place → (i + 1 ≤ length facts) × (spot facts (i + 1) ≡ place)
found_spot facts i place x at is = let l = get_low facts i x at in (omega (arith, l), ap (spot facts) (add-one i) ∙ ap place_in at ∙ is)

pub below_or : (n i : ℕ) → i < n + 1 → (i < n) ⊎ (i ≡ n)
below_or n i low = elim (cases_lt i n) [ inl less ↦ inl less | inr high ↦ inr (omega (arith, low, high)) ]
