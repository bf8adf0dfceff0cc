-- Readers of values with one spelling each, one behind the other.
use Rattle.std.proofs.Common.{◌≡◌, ◌∙◌, ℕ, List, [], ◌++◌, Ok, Err, refl, sym, ap, subst, inl, inr}
use Rattle.std.proofs.lemmas.List.{append-nil}
use Rattle.tc_base.specs.declared.fields.NotWhole.TheVariants.{Part}
use Rattle.tc_base.specs.Reading.{◌>>=◌, Front, both, mapped}
use Rattle.tc_base.proofs.Exact.{IsExact, Then, exact_then, exact_done, exact_as, bind_ok, bind_err, same_whole}

-- a value with F is spelled s
abbrev pub Is : {A : Type 0} → (A → Type 0) → (A → List ℕ) → A → List ℕ → Type 0
Is F s x text = F x × (text ≡ s x)

module _ {A B : Type 0} (F : A → Type 0) (s : A → List ℕ) (p : List ℕ → Front A) (G : B → Type 0) (t : B → List ℕ) (q : List ℕ → Front B) where
  abbrev PairOf : A → B → A × B → List ℕ → Type 0
  PairOf x y z text = (z ≡ (x, y)) × (text ≡ [])

  abbrev Second : A → A × B → List ℕ → Type 0
  Second x = Then (Is G t) (PairOf x)

  abbrev pub AreBoth : A × B → Type 0
  AreBoth z = F z.0 × G z.1

  abbrev pub spell_both : A × B → List ℕ
  spell_both z = s z.0 ++ t z.1

  both_to : (z : A × B) (text : List ℕ) → Then (Is F s) Second z text → Is AreBoth spell_both z text
  both_to z text h =
      let k = h.4 in
      let back : h.2 ≡ t k.0 = k.5 ∙ ap (λ (l : List ℕ). k.1 ++ l) k.4.1 ∙ append-nil k.1 ∙ k.3.1 in
      let whole : text ≡ s h.0 ++ t k.0 = h.5 ∙ ap (λ (l : List ℕ). l ++ h.2) h.3.1 ∙ ap (λ (l : List ℕ). s h.0 ++ l) back in
      subst (λ (w : A × B). Is AreBoth spell_both w text) (sym k.4.0) ((h.3.0, k.3.0), whole)

  both_back : (z : A × B) (text : List ℕ) → Is AreBoth spell_both z text → Then (Is F s) Second z text
  both_back z text h = (z.0, s z.0, t z.1, (h.0.0, refl), (z.1, t z.1, [], (h.0.1, refl), (refl, refl), sym (append-nil (t z.1))), h.1)

  pub exact_both : IsExact (Is F s) p → IsExact (Is G t) q → ((y : B) × G y) → IsExact (Is AreBoth spell_both) (both p q)
  exact_both first second some =
      exact_as (Then (Is F s) Second) (Is AreBoth spell_both) _ both_to both_back
      (exact_then (Is F s) Second p (λ x rest. q rest >>= λ y. Ok ((x, y.0), y.1)) first
      (λ x. exact_then (Is G t) (PairOf x) q (λ y rest. Ok ((x, y), rest)) second (λ y. exact_done (x, y)) (λ y. ((x, y), [], (refl, refl))))
      (λ x. ((x, some.0), t some.0, (some.0, t some.0, [], (some.1, refl), (refl, refl), sym (append-nil (t some.0))))))

module _ {A B : Type 0} (F : A → Type 0) (s : A → List ℕ) (p : List ℕ → Front A) (f : A → B) where
  abbrev pub IsImage : B → List ℕ → Type 0
  IsImage b text = (x : A) × (b ≡ f x) × F x × (text ≡ s x)

  pub exact_mapped : IsExact (Is F s) p → IsExact IsImage (mapped f p)
  exact_mapped h = record {
    found = λ bytes b rest fits e.
        let a = bind_ok (p bytes) (λ x. Ok (f x.0, x.1)) (b, rest) e in
        let w = same_whole (f a.0.0) b a.0.1 rest a.2 in
        let g = h.found bytes a.0.0 a.0.1 fits a.1 in
        (g.0, (a.0.0, sym w.0, g.1.0, g.1.1), g.2 ∙ ap (λ (l : List ℕ). g.0 ++ l) w.1);
    again = λ b text rest i.
        ap (λ (r : Front A). r >>= λ x. Ok (f x.0, x.1)) (h.again i.0 text rest (i.2, i.3)) ∙ ap (λ (c : B). Ok (c, rest)) (sym i.1);
    part = λ bytes fits e.
        let a = failed bytes e in
        let g = h.part bytes fits a in
        (f g.0, g.1, g.2, (g.0, refl, g.3.0, g.3.1));
    cut = λ b bytes more some i.
        ap (λ (r : Front A). r >>= λ x. Ok (f x.0, x.1)) (h.cut i.0 bytes more some (i.2, i.3));
  }
    where
      failed : (bytes : List ℕ) → mapped f p bytes ≡ Err Part → p bytes ≡ Err Part
      failed bytes e = elim (bind_err (p bytes) (λ x. Ok (f x.0, x.1)) Part e) [ inl k ↦ k | inr k ↦ absurd (let bad = k.2 in cc) ]
