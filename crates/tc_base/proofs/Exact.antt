-- Readers that answer exactly by a grammar, also where bytes are missing, and two of them in a row.
use Rattle.std.proofs.Common.{◌≡◌, Bool, true, false, cond, eqb, eq-eqb, ℕ, suc, ◌<◌, List, [], ◌∷◌, ◌++◌, length, Result, Ok, Err, refl, sym, ap, subst, ◌∙◌, append_assoc, arith, inl, inr, ◌⊎◌, length-append}
use Rattle.tc_base.specs.declared.fields.NotWhole.{NotWhole}
use Rattle.tc_base.specs.declared.fields.NotWhole.TheVariants.{Part, Bad}
use Rattle.std.proofs.lemmas.Bool.{cases_eq, ne_eqb}
use Rattle.tc_base.specs.Reading.{◌>>=◌, Front, byte_at}
pub use Rattle.tc_base.specs.Bytes.{IsBytes}

-- p reads what S spells: what it finds is spelled so, what is spelled so it finds, and it asks for more
-- exactly where more bytes can make it whole
pub record IsExact {A : Type 0} (S : A → List ℕ → Type 0) (p : List ℕ → Front A) : Type 0 where
  pub found : (bytes : List ℕ) (x : A) (rest : List ℕ) → IsBytes bytes → p bytes ≡ Ok (x, rest) → (text : List ℕ) × S x text × (bytes ≡ text ++ rest)
  pub again : (x : A) (text rest : List ℕ) → S x text → p (text ++ rest) ≡ Ok (x, rest)
  pub part : (bytes : List ℕ) → IsBytes bytes → p bytes ≡ Err Part → (x : A) × (more : List ℕ) × (0 < length more) × S x (bytes ++ more)
  pub cut : (x : A) (bytes more : List ℕ) → 0 < length more → S x (bytes ++ more) → p bytes ≡ Err Part

-- one behind the other
abbrev pub Then : {A B : Type 0} → (A → List ℕ → Type 0) → (A → B → List ℕ → Type 0) → B → List ℕ → Type 0
Then {A} S T y text = (x : A) × (front : List ℕ) × (back : List ℕ) × S x front × T x y back × (text ≡ front ++ back)

pub bind_ok : {A B : Type 0} (r : Result A NotWhole) (f : A → Result B NotWhole) (y : B) → (r >>= f) ≡ Ok y → (x : A) × (r ≡ Ok x) × (f x ≡ Ok y)
bind_ok (Ok x) f y e = (x, refl, e)
bind_ok (Err d) f y e = absurd cc

pub bind_err : {A B : Type 0} (r : Result A NotWhole) (f : A → Result B NotWhole) (d : NotWhole) → (r >>= f) ≡ Err d → (r ≡ Err d) ⊎ ((x : A) × (r ≡ Ok x) × (f x ≡ Err d))
bind_err (Ok x) f d e = inr (x, refl, e)
bind_err (Err b) f d e = inl cc

-- two ways to part a text
pub parted : (a b c d : List ℕ) → a ++ b ≡ c ++ d → ((more : List ℕ) × (0 < length more) × (c ≡ a ++ more)) ⊎ ((more : List ℕ) × (a ≡ c ++ more) × (d ≡ more ++ b))
parted [] b [] d e = inr ([], refl, sym e)
parted [] b (y ∷ c) d e = inl (y ∷ c, omega arith, refl)
parted (x ∷ a) b [] d e = inr (x ∷ a, refl, sym e)
parted (x ∷ a) b (y ∷ c) d e =
    let head : x ≡ y = cc in
    let tail : a ++ b ≡ c ++ d = cc in
    elim (parted a b c d tail) [
      | inl h ↦ inl (h.0, h.1, ap (λ (l : List ℕ). y ∷ l) h.2 ∙ ap (λ (z : ℕ). z ∷ (a ++ h.0)) (sym head))
      | inr h ↦ inr (h.0, ap (λ (l : List ℕ). x ∷ l) h.1 ∙ ap (λ (z : ℕ). z ∷ (c ++ h.0)) head, h.2)
    ]

pub IsBytes-rest : (front rest : List ℕ) → IsBytes (front ++ rest) → IsBytes rest
IsBytes-rest [] rest h = h
IsBytes-rest (x ∷ front) rest h = IsBytes-rest front rest (λ i. h (suc i))

pub exact_then : {A B : Type 0} (S : A → List ℕ → Type 0) (T : A → B → List ℕ → Type 0) (p : List ℕ → Front A) (q : A → List ℕ → Front B)
    → IsExact S p → ((x : A) → IsExact (T x) (q x)) → ((x : A) → (y : B) × (text : List ℕ) × T x y text) → IsExact (Then S T) (λ bytes. p bytes >>= λ x. q x.0 x.1)
exact_then {A} {B} S T p q first second some = record {
  found = λ bytes y rest fits e.
      let a = bind_ok (p bytes) (λ x. q x.0 x.1) (y, rest) e in
      let f = first.found bytes a.0.0 a.0.1 fits a.1 in
      let fits_rest : IsBytes a.0.1 = IsBytes-rest f.0 a.0.1 (subst IsBytes f.2 fits) in
      let s = (second a.0.0).found a.0.1 y rest fits_rest a.2 in
      (f.0 ++ s.0, (a.0.0, f.0, s.0, f.1, s.1, refl), f.2 ∙ ap (λ (l : List ℕ). f.0 ++ l) s.2 ∙ sym (append_assoc f.0 s.0 rest));
  again = λ y text rest h.
      let regrouped : text ++ rest ≡ h.1 ++ (h.2 ++ rest) = ap (λ (l : List ℕ). l ++ rest) h.5 ∙ append_assoc h.1 h.2 rest in
      ap (λ (l : List ℕ). p l >>= λ x. q x.0 x.1) regrouped ∙ rw (first.again h.0 h.1 (h.2 ++ rest) h.3) ((second h.0).again y h.2 rest h.4);
  part = λ bytes fits e.
      elim (bind_err (p bytes) (λ x. q x.0 x.1) Part e) [
        | inl e ↦
            let f = first.part bytes fits e in
            let s = some f.0 in
            (s.0, f.1 ++ s.1, omega (arith, f.2, length-append f.1 s.1), (f.0, bytes ++ f.1, s.1, f.3, s.2, sym (append_assoc bytes f.1 s.1)))
        | inr a ↦
            let f = first.found bytes a.0.0 a.0.1 fits a.1 in
            let fits_rest : IsBytes a.0.1 = IsBytes-rest f.0 a.0.1 (subst IsBytes f.2 fits) in
            let s = (second a.0.0).part a.0.1 fits_rest a.2 in
            (s.0, s.1, s.2, (a.0.0, f.0, a.0.1 ++ s.1, f.1, s.3, ap (λ (l : List ℕ). l ++ s.1) f.2 ∙ append_assoc f.0 a.0.1 s.1))
      ];
  cut = λ y bytes more some_more h.
      elim (parted bytes more h.1 h.2 h.5) [
        | inl short ↦ rw (first.cut h.0 bytes short.0 short.1 (subst (S h.0) short.2 h.3)) refl
        | inr long ↦ ap (λ (l : List ℕ). p l >>= λ x. q x.0 x.1) long.1 ∙ rw (first.again h.0 h.1 long.0 h.3) ((second h.0).cut y long.0 more some_more (subst (T h.0 y) long.2 h.4))
      ];
}

abbrev whole : {A : Type 0} → A → List ℕ → Front A
whole x rest = Ok (x, rest)

pub same_whole : {A : Type 0} (y x : A) (b r : List ℕ) → whole y b ≡ whole x r → (y ≡ x) × (b ≡ r)
same_whole {A} y x b r e =
    let pairs : ◌≡◌ {A = A × List ℕ} (y, b) (x, r) = cc in
    (ap (λ (p : A × List ℕ). p.0) pairs, ap (λ (p : A × List ℕ). p.1) pairs)

pub exact_done : {A : Type 0} (y : A) → IsExact (λ (z : A) text. (z ≡ y) × (text ≡ [])) (λ rest. Ok (y, rest))
exact_done y = record {
  found = λ bytes x rest fits e. let s = same_whole y x bytes rest e in ([], (sym s.0, refl), s.1);
  again = λ x text rest h. rw (h.0, h.1) refl;
  part = λ bytes fits e. absurd cc;
  cut = λ x bytes more some h. absurd (omega (arith, some, ap length h.1, length-append bytes more));
}

-- the same grammar in other words
pub exact_as : {A : Type 0} (S S' : A → List ℕ → Type 0) (p : List ℕ → Front A) → ((x : A) (text : List ℕ) → S x text → S' x text) → ((x : A) (text : List ℕ) → S' x text → S x text) → IsExact S p → IsExact S' p
exact_as S S' p to back h = record {
  found = λ bytes x rest fits e. let f = h.found bytes x rest fits e in (f.0, to x f.0 f.1, f.2);
  again = λ x text rest s. h.again x text rest (back x text s);
  part = λ bytes fits e. let f = h.part bytes fits e in (f.0, f.1, f.2, to f.0 (bytes ++ f.1) f.3);
  cut = λ x bytes more some s. h.cut x bytes more some (back x (bytes ++ more) s);
}

-- ---- a byte that says what follows

pub exact_none : {A : Type 0} → IsExact (λ (x : A) text. ⊥) (λ rest. Err Bad)
exact_none = record {
  found = λ bytes x rest fits e. absurd cc;
  again = λ x text rest s. absurd s;
  part = λ bytes fits e. absurd cc;
  cut = λ x bytes more some s. absurd s;
}

abbrev pub Cases : {A : Type 0} → ℕ → ℕ → (A → List ℕ → Type 0) → (A → List ℕ → Type 0) → A → List ℕ → Type 0
Cases b t S S' x text = ((b ≡ t) × S x text) ⊎ ((b ≡ t → ⊥) × S' x text)

exact_when : {A : Type 0} (b t : ℕ) (S S' : A → List ℕ → Type 0) (p p' : List ℕ → Front A) → IsExact S p → IsExact S' p' → (test : Bool) → ((b ≡ t) × (test ≡ true)) ⊎ ((b ≡ t → ⊥) × (test ≡ false)) → IsExact (Cases b t S S') (λ rest. cond test (p rest) (p' rest))
exact_when b t S S' p p' h h' true (inl is) = exact_as S (Cases b t S S') p (λ x text s. inl (is.0, s)) (λ x text s. elim s [ inl k ↦ k.1 | inr k ↦ absurd (k.0 is.0) ]) h
exact_when b t S S' p p' h h' true (inr is) = absurd (let e = is.1 in cc)
exact_when b t S S' p p' h h' false (inl is) = absurd (let e = is.1 in cc)
exact_when b t S S' p p' h h' false (inr is) = exact_as S' (Cases b t S S') p' (λ x text s. inr (is.0, s)) (λ x text s. elim s [ inl k ↦ absurd (is.0 k.0) | inr k ↦ k.1 ]) h'

tested : (b t : ℕ) → ((b ≡ t) × (eqb b t ≡ true)) ⊎ ((b ≡ t → ⊥) × (eqb b t ≡ false))
tested b t = elim (cases_eq b t) [ inl e ↦ inl (e, eq-eqb b t e) | inr ne ↦ inr (ne, ne_eqb b t ne) ]

pub exact_case : {A : Type 0} (b t : ℕ) (S S' : A → List ℕ → Type 0) (p p' : List ℕ → Front A) → IsExact S p → IsExact S' p' → IsExact (Cases b t S S') (λ rest. cond (eqb b t) (p rest) (p' rest))
exact_case b t S S' p p' h h' = exact_when b t S S' p p' h h' (eqb b t) (tested b t)

abbrev pub Tagged : {A : Type 0} → (ℕ → A → List ℕ → Type 0) → A → List ℕ → Type 0
Tagged T y text = (b : ℕ) × (back : List ℕ) × T b y back × (text ≡ b ∷ back)

-- with t in front there is one
pub exact_tagged : {A : Type 0} (T : ℕ → A → List ℕ → Type 0) (q : ℕ → List ℕ → Front A) (t : ℕ) → ((b : ℕ) → IsExact (T b) (q b)) → ((y : A) × (text : List ℕ) × T t y text) → IsExact (Tagged T) (λ bytes. byte_at bytes >>= λ b. q b.0 b.1)
exact_tagged T q t each some = record {
  found = tagged_found;
  again = λ y text rest h. ap (λ (l : List ℕ). byte_at (l ++ rest) >>= λ b. q b.0 b.1) h.3 ∙ (each h.0).again y h.1 rest h.2;
  part = tagged_part;
  cut = tagged_cut;
}
  where
    tagged_found : (bytes : List ℕ) (y : _) (rest : List ℕ) → IsBytes bytes → (byte_at bytes >>= λ b. q b.0 b.1) ≡ Ok (y, rest) → (text : List ℕ) × Tagged T y text × (bytes ≡ text ++ rest)
    tagged_found [] y rest fits e = absurd cc
    tagged_found (b ∷ bytes) y rest fits e =
        let f = (each b).found bytes y rest (λ i. fits (suc i)) e in
        (b ∷ f.0, (b, f.0, f.1, refl), ap (λ (l : List ℕ). b ∷ l) f.2)

    tagged_part : (bytes : List ℕ) → IsBytes bytes → (byte_at bytes >>= λ b. q b.0 b.1) ≡ Err Part → (y : _) × (more : List ℕ) × (0 < length more) × Tagged T y (bytes ++ more)
    tagged_part [] fits e = (some.0, t ∷ some.1, omega arith, (t, some.1, some.2, refl))
    tagged_part (b ∷ bytes) fits e =
        let f = (each b).part bytes (λ i. fits (suc i)) e in
        (f.0, f.1, f.2, (b, bytes ++ f.1, f.3, refl))

    tagged_cut : (y : _) (bytes more : List ℕ) → 0 < length more → Tagged T y (bytes ++ more) → (byte_at bytes >>= λ b. q b.0 b.1) ≡ Err Part
    tagged_cut y [] more some_more h = refl
    tagged_cut y (b ∷ bytes) more some_more h =
        let head : b ≡ h.0 = let e = h.3 in cc in
        let tail : bytes ++ more ≡ h.1 = let e = h.3 in cc in
        (each b).cut y bytes more some_more (subst (λ (l : List ℕ). T b y l) (sym tail) (subst (λ (n : ℕ). T n y h.1) (sym head) h.2))
