-- Values one behind the other, each of which no other one is a front of.
use Rattle.std.proofs.Common.{◌≡◌, ℕ, List, [], ◌∷◌, ◌++◌, length, Result, Ok, Err, refl, sym, ap, subst, ◌∙◌, append_assoc, arith}
use Rattle.std.specs.List.{AllByRecursion, flat_map}
use Rattle.std.specs.Prelude.{IfOk, OnErr}
use Rattle.std.specs.Result.{IsErrAnd, IsErrOf}
use Rattle.std.proofs.lemmas.Result.{err_from_is_err_and}
use Rattle.std.proofs.lemmas.List.{append-nil}
use Rattle.tc_base.specs.declared.fields.NotWhole.{NotWhole}
use Rattle.tc_base.specs.Reading.{Front}
use Rattle.tc_base.proofs.Exact.{IsBytes, IsExact, same_whole}
use Rattle.tc_base.proofs.ExactPairs.{Is}
use Rattle.bt_page.specs.Spelled.{AtFront, NoneAt}

-- bytes begin with one value at most
pub record IsPrefixFree {A : Type 0} (F : A → Type 0) (s : A → List ℕ) : Type 0 where
  pub only : (bytes : List ℕ) (x y : A) (rest more : List ℕ) → AtFront F s bytes x rest → AtFront F s bytes y more → (x ≡ y) × (rest ≡ more)

module _ {A : Type 0} (F : A → Type 0) (s : A → List ℕ) (p : List ℕ → Front A) (h : IsExact (Is F s) p) where
  pub exact_found : (bytes : List ℕ) (x : A) (rest : List ℕ) → IsBytes bytes → p bytes ≡ Ok (x, rest) → AtFront F s bytes x rest
  exact_found bytes x rest fits e = let f = h.found bytes x rest fits e in record { fits = f.1.0; is = f.2 ∙ ap (λ (l : List ℕ). l ++ rest) f.1.1 }

  exact_reads : (bytes : List ℕ) (x : A) (rest : List ℕ) → AtFront F s bytes x rest → p bytes ≡ Ok (x, rest)
  exact_reads bytes x rest f = ap p f.is ∙ h.again x (s x) rest (f.fits, refl)

  pub exact_none_at : (bytes : List ℕ) (e : NotWhole) → p bytes ≡ Err e → NoneAt F s bytes
  exact_none_at bytes e is x rest f = let bad = sym (exact_reads bytes x rest f) ∙ is in absurd cc

  pub exact_free : IsPrefixFree F s
  exact_free = record { only = λ bytes x y rest more f g. same_whole x y rest more (sym (exact_reads bytes x rest f) ∙ exact_reads bytes y more g) }

-- a value that begins with a head
module _ {H Y : Type 0} (F : H → Type 0) (s : H → List ℕ) (G : Y → Type 0) (t : Y → List ℕ) (head : Y → H) (tail : Y → List ℕ)
    (fits : (y : Y) → G y → F (head y)) (is : (y : Y) → G y → t y ≡ s (head y) ++ tail y) where
  pub headed : (bytes : List ℕ) (y : Y) (rest : List ℕ) → AtFront G t bytes y rest → AtFront F s bytes (head y) (tail y ++ rest)
  headed bytes y rest f = record { fits = fits y f.fits; is = f.is ∙ ap (λ (l : List ℕ). l ++ rest) (is y f.fits) ∙ append_assoc (s (head y)) (tail y) rest }

  pub none_headed : (bytes : List ℕ) → NoneAt F s bytes → NoneAt G t bytes
  none_headed bytes none y rest f = none (head y) (tail y ++ rest) (headed bytes y rest f)

-- texts as long as one another in front of the same bytes
pub same_parts : (a b c d : List ℕ) → length a ≡ length b → a ++ c ≡ b ++ d → (a ≡ b) × (c ≡ d)
same_parts [] [] c d len e = (refl, e)
same_parts [] (y ∷ b) c d len e = absurd (omega (arith, len))
same_parts (x ∷ a) [] c d len e = absurd (omega (arith, len))
same_parts (x ∷ a) (y ∷ b) c d len e =
    let head : x ≡ y = cc in
    let rest = same_parts a b c d (omega (arith, len)) (let t : a ++ c ≡ b ++ d = cc in t) in
    (ap (λ (z : ℕ). z ∷ a) head ∙ ap (λ (l : List ℕ). y ∷ l) rest.0, rest.1)

-- these values were read, and whatever the bytes are as a whole, they go on behind these
pub record Progress {A : Type 0} (F : A → Type 0) (s : A → List ℕ) (T : List A → List ℕ → Type 0) (bytes : List ℕ) (done : List A) (rest : List ℕ) : Type 0 where
  pub fits : AllByRecursion F done
  pub is : bytes ≡ flat_map s done ++ rest
  pub only : (all : List A) (tail : List ℕ) → T all tail → AllByRecursion F all → bytes ≡ flat_map s all ++ tail → (more : List A) × (all ≡ done ++ more) × AllByRecursion F more × (rest ≡ flat_map s more ++ tail)

pub all_with : {A : Type 0} (F : A → Type 0) (xs : List A) (x : A) → AllByRecursion F xs → F x → AllByRecursion F (xs ++ x ∷ [])
all_with F [] x f g = (g, tt)
all_with F (y ∷ xs) x f g = (f.0, all_with F xs x f.1 g)

module _ {A : Type 0} (F : A → Type 0) (s : A → List ℕ) (T : List A → List ℕ → Type 0) where
  pub progress_start : (bytes : List ℕ) → Progress F s T bytes [] bytes
  progress_start bytes = record { fits = tt; is = refl; only = λ all tail t f e. (all, refl, f, e) }

  pub progress_step : (bytes : List ℕ) (done : List A) (rest : List ℕ) (x : A) (behind : List ℕ) → IsPrefixFree F s → Progress F s T bytes done rest → AtFront F s rest x behind → ((tail : List ℕ) → T done tail → rest ≡ tail → ⊥) → Progress F s T bytes (done ++ x ∷ []) behind
  progress_step bytes done rest x behind free p f not = record {
    fits = all_with F done x p.fits f.fits;
    is = p.is ∙ ap (λ (l : List ℕ). flat_map s done ++ l) f.is ∙ joined done;
    only = λ all tail t fit e. go all tail t (p.only all tail t fit e);
  }
    where
      joined : (done : List A) → flat_map s done ++ (s x ++ behind) ≡ flat_map s (done ++ x ∷ []) ++ behind
      joined [] = ap (λ (l : List ℕ). l ++ behind) (sym (append-nil (s x)))
      joined (y ∷ done) = append_assoc (s y) (flat_map s done) (s x ++ behind) ∙ ap (λ (l : List ℕ). s y ++ l) (joined done) ∙ sym (append_assoc (s y) (flat_map s (done ++ x ∷ [])) behind)

      more_of : (all : List A) (tail : List ℕ) (more : List A) → T all tail → all ≡ done ++ more → AllByRecursion F more → rest ≡ flat_map s more ++ tail
          → (more : List A) × (all ≡ (done ++ x ∷ []) ++ more) × AllByRecursion F more × (behind ≡ flat_map s more ++ tail)
      more_of all tail [] t e fit r = absurd (not tail (subst (λ (l : List A). T l tail) (e ∙ append-nil done) t) r)
      more_of all tail (y ∷ more) t e fit r =
          let same = free.only rest x y behind (flat_map s more ++ tail) f (record { fits = fit.0; is = r ∙ append_assoc (s y) (flat_map s more) tail }) in
          (more, e ∙ ap (λ (z : A). done ++ z ∷ more) (sym same.0) ∙ sym (append_assoc done (x ∷ []) more), fit.1, same.1)

      go : (all : List A) (tail : List ℕ) → T all tail → ((more : List A) × (all ≡ done ++ more) × AllByRecursion F more × (rest ≡ flat_map s more ++ tail))
          → (more : List A) × (all ≡ (done ++ x ∷ []) ++ more) × AllByRecursion F more × (behind ≡ flat_map s more ++ tail)
      go all tail t m = more_of all tail m.0 t m.1 m.2 m.3

  pub progress_none : (bytes : List ℕ) (done : List A) (rest : List ℕ) → Progress F s T bytes done rest → NoneAt F s rest → ((tail : List ℕ) → T done tail → rest ≡ tail → ⊥)
      → (all : List A) (tail : List ℕ) → T all tail → AllByRecursion F all → bytes ≡ flat_map s all ++ tail → ⊥
  progress_none bytes done rest p none not all tail t fit e = let m = p.only all tail t fit e in go m.0 m.1 m.2 m.3
    where
      go : (more : List A) → all ≡ done ++ more → AllByRecursion F more → rest ≡ flat_map s more ++ tail → ⊥
      go [] is f r = not tail (subst (λ (l : List A). T l tail) (is ∙ append-nil done) t) r
      go (y ∷ more) is f r = none y (flat_map s more ++ tail) (record { fits = f.0; is = r ∙ append_assoc (s y) (flat_map s more) tail })

-- an error that `?` hands on is named by the call that it came from
pub err_handed : {A B E : Type 0} (r : Result A E) (w e : E) → IsErrAnd r (λ y. y ≡ w) → IsErrOf r e → IsErrOf {T = B} (Err w) e
err_handed r w e is named =
    let p = err_from_is_err_and r is in
    let f : Err p.0 ≡ Err e = sym p.1 ∙ named in
    let s : p.0 ≡ e = cc in
    ap Err (sym p.2 ∙ s)

-- what two facts of what came give together
pub if_ok_both : {A E : Type 0} {P Q R : A → Type 0} (r : Result A E) → ((x : A) → P x → Q x → R x) → IfOk r P → IfOk r Q → IfOk r R
if_ok_both (Ok x) f p q = f x p q
if_ok_both (Err e) f p q = tt

-- what is true whatever a call answers
pub on_err_any : {A E P : Type 0} (r : Result A E) → P → OnErr r P
on_err_any (Ok x) p = tt
on_err_any (Err e) p = p
