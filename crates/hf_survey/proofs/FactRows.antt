-- The facts of a file's records, by place and by number.
use Rattle.std.proofs.Common.{◌≡◌, ◌∙◌, inl, inr, ℕ, zero, suc, ◌+◌, ◌≤◌, List, [], ◌∷◌, ◌++◌, length, refl, sym, ap, arith, Some, None}
use Rattle.std.specs.Prelude.{slice_get}
use Rattle.std.proofs.lemmas.Bool.{cases_eq}
use Rattle.hf_head.specs.declared.head.Head.{Head}
use Rattle.hf_block.specs.Pieces.{Piece, Record, held, free, size_of, AllWhole}
use Rattle.hf_layout.specs.Layout.{record_of, record_at}
use Rattle.hf_layout.proofs.Places.{here, later, long, long-cons}
use Rattle.hf_tree.specs.Standing.{count_of}
use Rattle.hf_survey.specs.declared.facts.Fact.{Fact}
use Rattle.hf_survey.specs.Facts.{fact_of, facts_of, Ascend}

module _ (h : Head) where
  first_place : (at : ℕ) (r : Record) (x : Fact) → Some (fact_of h at r) ≡ Some x → x.place ≡ at
  first_place at r x e = let f : fact_of h at r ≡ x = cc in sym (ap (λ (z : Fact). z.place) f)

  facts_low : (at : ℕ) (ps : List Piece) (i : ℕ) (x : Fact) → slice_get (facts_of h at ps) i ≡ Some x → at ≤ x.place
  facts_low at [] i x e = absurd (let f : None ≡ Some x = e in cc)
  facts_low at (held r ∷ ps) zero x e = omega (arith, first_place at r x e)
  facts_low at (held r ∷ ps) (suc i) x e = let l = facts_low (at + size_of (held r)) ps i x e in omega (arith, l)
  facts_low at (free size tail ∷ ps) i x e = let l = facts_low (at + size_of (free size tail)) ps i x e in omega (arith, l)

  pub facts_rise : (u at : ℕ) (ps : List Piece) → AllWhole u ps → Ascend (facts_of h at ps)
  facts_rise u at [] whole i j x y e f low = absurd (let g : None ≡ Some x = e in cc)
  facts_rise u at (held r ∷ ps) whole i zero x y e f low = absurd (omega (arith, low))
  facts_rise u at (held r ∷ ps) whole zero (suc j) x y e f low = let l = facts_low (at + size_of (held r)) ps j y f in omega (arith, l, first_place at r x e, whole.0.size.some)
  facts_rise u at (held r ∷ ps) whole (suc i) (suc j) x y e f low = facts_rise u (at + size_of (held r)) ps whole.1 i j x y e f (omega (arith, low))
  facts_rise u at (free size tail ∷ ps) whole i j x y e f low = facts_rise u (at + size_of (free size tail)) ps whole.1 i j x y e f low

  -- a fact is that of a record at its place
  pub fact_record : (u at : ℕ) (ps : List Piece) (i : ℕ) (x : Fact) → AllWhole u ps → slice_get (facts_of h at ps) i ≡ Some x → (r : Record) × (record_at at ps x.place ≡ Some r) × (x ≡ fact_of h x.place r)
  fact_record u at [] i x whole e = absurd (let f : None ≡ Some x = e in cc)
  fact_record u at (held r ∷ ps) zero x whole e =
      let p = first_place at r x e in
      let f : fact_of h at r ≡ x = (let g : Some (fact_of h at r) ≡ Some x = e in cc) in
      (r, ap record_of (here at (held r) ps x.place p), sym f ∙ ap (λ z. fact_of h z r) (sym p))
  fact_record u at (held r ∷ ps) (suc i) x whole e =
      let w = fact_record u (at + size_of (held r)) ps i x whole.1 e in
      let l = facts_low (at + size_of (held r)) ps i x e in
      (w.0, ap record_of (later at (held r) ps x.place (omega (arith, l, whole.0.size.some))) ∙ w.1, w.2)
  fact_record u at (free size tail ∷ ps) i x whole e =
      let w = fact_record u (at + size_of (free size tail)) ps i x whole.1 e in
      let l = facts_low (at + size_of (free size tail)) ps i x e in
      (w.0, ap record_of (later at (free size tail) ps x.place (omega (arith, l, whole.0.size.some))) ∙ w.1, w.2)

  -- each record has one
  pub record_fact : (at : ℕ) (ps : List Piece) (p : ℕ) (r : Record) → record_at at ps p ≡ Some r → (i : ℕ) × (slice_get (facts_of h at ps) i ≡ Some (fact_of h p r))
  record_fact at [] p r e = absurd (let f : None ≡ Some r = e in cc)
  record_fact at (q ∷ ps) p r e = elim (cases_eq p at) [
    | inl same ↦ first q (sym (ap record_of (here at q ps p same)) ∙ e) same
    | inr ne ↦ rest q (record_fact (at + size_of q) ps p r (sym (ap record_of (later at q ps p ne)) ∙ e))
  ]
    where
      first : (q : Piece) → record_of (Some q) ≡ Some r → p ≡ at → (i : ℕ) × (slice_get (facts_of h at (q ∷ ps)) i ≡ Some (fact_of h p r))
      first (held x) is same = let f : x ≡ r = (let g : Some x ≡ Some r = is in cc) in (0, λ i. Some (fact_of h (sym same i) (f i)))
      first (free size tail) is same = absurd (let f : None ≡ Some r = is in cc)

      rest : (q : Piece) → (i : ℕ) × (slice_get (facts_of h (at + size_of q) ps) i ≡ Some (fact_of h p r)) → (i : ℕ) × (slice_get (facts_of h at (q ∷ ps)) i ≡ Some (fact_of h p r))
      rest (held x) w = (suc w.0, w.1)
      rest (free size tail) w = w

  pub facts_count : (at : ℕ) (ps : List Piece) → length (facts_of h at ps) ≡ count_of ps
  facts_count at [] = refl
  facts_count at (held r ∷ ps) = let c = facts_count (at + size_of (held r)) ps in omega (arith, c)
  facts_count at (free size tail ∷ ps) = facts_count (at + size_of (free size tail)) ps

  pub facts-append : (at : ℕ) (xs ys : List Piece) → facts_of h at (xs ++ ys) ≡ facts_of h at xs ++ facts_of h (at + long xs) ys
  facts-append at [] ys = ap (λ n. facts_of h n ys) (omega arith)
  facts-append at (held r ∷ xs) ys = let e = facts-append (at + size_of (held r)) xs ys in ap (λ l. fact_of h at r ∷ l) (e ∙ ap (λ n. facts_of h (at + size_of (held r)) xs ++ facts_of h n ys) (omega (arith, long-cons (held r) xs)))
  facts-append at (free size tail ∷ xs) ys = facts-append (at + size_of (free size tail)) xs ys ∙ ap (λ n. facts_of h (at + size_of (free size tail)) xs ++ facts_of h n ys) (omega (arith, long-cons (free size tail) xs))
