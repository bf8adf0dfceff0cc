-- What calls of a pool keep at multiples of the unit.
use Rattle.std.proofs.Common.{◌≡◌, ◌∙◌, ℕ, ◌+◌, ◌%◌, ◌^◌, ◌<◌, ◌≤◌, Bool, cond, Some, None, Result, Ok, Err, OnOk, OnErr, sym, ap, subst, inl, inr, arith}
use Rattle.std.proofs.lemmas.Bool.{cases_eq, cases_lt, eq-eqb, ne_eqb}
use Rattle.hf_layout.specs.Frees.{Frees, IsThere, AreApart, with_block, without}
use Rattle.hf_pool.specs.Joins.{FrontJoined, BackJoined}
use Rattle.hf_pool.specs.Multiples.{AreMultiples, LieWithin}
use Rattle.hf_pool.proofs.Building.{sum_aligned}

pub multiples_less : (unit : ℕ) (old new : Frees) (place : ℕ) → AreMultiples unit old → ((q : ℕ) → new q ≡ without old place q) → AreMultiples unit new
multiples_less unit old new place h is q t there = elim (cases_eq q place) [
  | inl e ↦ absurd (let gone : None ≡ Some t = sym (ap (λ (b : Bool). cond b None (old q)) (eq-eqb q place e)) ∙ sym (is q) ∙ there in cc)
  | inr ne ↦ h q t (sym (ap (λ (b : Bool). cond b None (old q)) (ne_eqb q place ne)) ∙ sym (is q) ∙ there)
]

multiples_more : (unit : ℕ) (old new : Frees) (place size : ℕ) → AreMultiples unit old → place % unit ≡ 0 → size % unit ≡ 0 → ((q : ℕ) → new q ≡ with_block old place size q) → AreMultiples unit new
multiples_more unit old new place size h a b is q t there = elim (cases_eq q place) [
  | inl e ↦
      let s : Some size ≡ Some t = sym (ap (λ (c : Bool). cond c (Some size) (old q)) (eq-eqb q place e)) ∙ sym (is q) ∙ there in
      let f : size ≡ t = cc in
      (subst (λ (n : ℕ). n % unit ≡ 0) (sym e) a, subst (λ (n : ℕ). n % unit ≡ 0) f b)
  | inr ne ↦ h q t (sym (ap (λ (c : Bool). cond c (Some size) (old q)) (ne_eqb q place ne)) ∙ sym (is q) ∙ there)
]

-- an insertion that may be refused
pub multiples_insert : {A E : Type 0} (r : Result A E) (unit : ℕ) (old new : Frees) (place size : ℕ) → AreMultiples unit old → place % unit ≡ 0 → size % unit ≡ 0 → OnOk r ((q : ℕ) → new q ≡ with_block old place size q) → OnErr r ((q : ℕ) → new q ≡ old q) → AreMultiples unit new
multiples_insert (Ok x) unit old new place size h a b ok err = multiples_more unit old new place size h a b ok
multiples_insert (Err e) unit old new place size h a b ok err = λ q t there. h q t (sym (err q) ∙ there)

pub front_aligned : (unit : ℕ) (old new : Frees) (at size start total : ℕ) → AreMultiples unit old → at % unit ≡ 0 → size % unit ≡ 0 → FrontJoined old at size start total new → (start % unit ≡ 0) × (total % unit ≡ 0)
front_aligned unit old new at size start total h a b (inl (front, j)) =
    let m = h start front j.there in
    (m.0, subst (λ (n : ℕ). n % unit ≡ 0) (sym j.sum) (sum_aligned unit front size m.1 b))
front_aligned unit old new at size start total h a b (inr k) = (subst (λ (n : ℕ). n % unit ≡ 0) (sym k.start_is) a, subst (λ (n : ℕ). n % unit ≡ 0) (sym k.total_is) b)

pub back_aligned : (unit : ℕ) (old new : Frees) (end size total : ℕ) → AreMultiples unit old → size % unit ≡ 0 → BackJoined old end size total new → total % unit ≡ 0
back_aligned unit old new end size total h b (inl (back, j)) = subst (λ (n : ℕ). n % unit ≡ 0) (sym j.sum) (sum_aligned unit size back b (h end back j.there).1)
back_aligned unit old new end size total h b (inr k) = subst (λ (n : ℕ). n % unit ≡ 0) (sym k.total_is) b

-- ---- inside the file

pub within_less : (end : ℕ) (old new : Frees) (place : ℕ) → LieWithin end old → ((q : ℕ) → new q ≡ without old place q) → LieWithin end new
within_less end old new place h is q t there = elim (cases_eq q place) [
  | inl e ↦ absurd (let gone : None ≡ Some t = sym (ap (λ (b : Bool). cond b None (old q)) (eq-eqb q place e)) ∙ sym (is q) ∙ there in cc)
  | inr ne ↦ h q t (sym (ap (λ (b : Bool). cond b None (old q)) (ne_eqb q place ne)) ∙ sym (is q) ∙ there)
]

within_more : (end : ℕ) (old new : Frees) (place size : ℕ) → LieWithin end old → 0 < size → size < 2 ^ 32 → place + size ≤ end → ((q : ℕ) → new q ≡ with_block old place size q) → LieWithin end new
within_more end old new place size h some few inside is q t there = elim (cases_eq q place) [
  | inl e ↦
      let s : Some size ≡ Some t = sym (ap (λ (c : Bool). cond c (Some size) (old q)) (eq-eqb q place e)) ∙ sym (is q) ∙ there in
      let f : size ≡ t = cc in
      (omega (arith, f, some), omega (arith, f, few), omega (arith, e, f, inside))
  | inr ne ↦ h q t (sym (ap (λ (c : Bool). cond c (Some size) (old q)) (ne_eqb q place ne)) ∙ sym (is q) ∙ there)
]

pub within_insert : {A E : Type 0} (r : Result A E) (end : ℕ) (old new : Frees) (place size : ℕ) → LieWithin end old → 0 < size → size < 2 ^ 32 → place + size ≤ end → OnOk r ((q : ℕ) → new q ≡ with_block old place size q) → OnErr r ((q : ℕ) → new q ≡ old q) → LieWithin end new
within_insert (Ok x) end old new place size h some few inside ok err = within_more end old new place size h some few inside ok
within_insert (Err e) end old new place size h some few inside ok err = λ q t there. h q t (sym (err q) ∙ there)

pub within_longer : (end end' : ℕ) (frees : Frees) → end ≤ end' → LieWithin end frees → LieWithin end' frees
within_longer end end' frees le h q t there = let w = h q t there in (w.0, w.1, omega (arith, le, w.2))

-- what is joined ends where its parts do
pub front_inside : (end : ℕ) (old new : Frees) (at size start total : ℕ) → LieWithin end old → 0 < size → size < 2 ^ 32 → FrontJoined old at size start total new → (0 < total) × (total < 2 ^ 32) × (start + total ≡ at + size)
front_inside end old new at size start total h some few (inl (front, j)) = (omega (arith, j.sum, some), j.below, omega (arith, j.ends, j.sum))
front_inside end old new at size start total h some few (inr k) = (omega (arith, k.total_is, some), omega (arith, k.total_is, few), omega (arith, k.start_is, k.total_is))

pub back_inside : (end : ℕ) (old new : Frees) (start at size total : ℕ) → LieWithin end old → 0 < size → size < 2 ^ 32 → start + size ≡ at → at ≤ end → BackJoined old at size total new → (0 < total) × (total < 2 ^ 32) × (start + total ≤ end)
back_inside end old new start at size total h some few ends inside (inl (back, j)) = (omega (arith, j.sum, some), j.below, omega (arith, j.sum, ends, (h at back j.there).2))
back_inside end old new start at size total h some few ends inside (inr k) = (omega (arith, k.total_is, some), omega (arith, k.total_is, few), omega (arith, k.total_is, ends, inside))

-- without the block at the end, all end where it began or before
pub within_cut : (place size end : ℕ) (old new : Frees) → LieWithin end old → AreApart old → IsThere old place size → place + size ≡ end → ((q : ℕ) → new q ≡ without old place q) → LieWithin place new
within_cut place size end old new h apart there ends is q t at = elim (cases_eq q place) [
  | inl e ↦ absurd (let gone : None ≡ Some t = sym (ap (λ (b : Bool). cond b None (old q)) (eq-eqb q place e)) ∙ sym (is q) ∙ at in cc)
  | inr ne ↦
      let was : IsThere old q t = sym (ap (λ (b : Bool). cond b None (old q)) (ne_eqb q place ne)) ∙ sym (is q) ∙ at in
      let w = h q t was in
      elim (cases_lt q place) [
        | inl low ↦ (w.0, w.1, apart q t place size was there low)
        | inr high ↦ absurd (let a = apart place size q t there was (omega (arith, high, ne)) in omega (arith, a, w.2, w.0, ends))
      ]
]
