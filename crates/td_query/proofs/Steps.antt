-- One token more of those that are gone through.
use Rattle.std.proofs.Common.{◌≡◌, ◌∙◌, ℕ, zero, suc, ◌+◌, true, false, Bool, List, [], ◌∷◌, length, sym, ap, arith}
use Rattle.std.specs.Prelude.{◌||◌, ◌&&◌, nat_le}
use Rattle.std.specs.List.{list_any, list_all, starts_with}
use Rattle.std.proofs.lemmas.Bool.{le-leb}
use Rattle.tc_base.specs.Texts.{is_text}
use Rattle.tc_model.specs.Operators.{follow}

module _ {A : Type 0} (test : A → Bool) where
  pub any_goes_on : (xs ys : List A) (x : A) → xs ≡ x ∷ ys → test x ≡ false → list_any test xs ≡ list_any test ys
  any_goes_on xs ys x e f = ap (list_any test) e ∙ ap (λ b. b || list_any test ys) f

  pub any_found : (xs ys : List A) (x : A) → xs ≡ x ∷ ys → test x ≡ true → list_any test xs ≡ true
  any_found xs ys x e f = ap (list_any test) e ∙ ap (λ b. b || list_any test ys) f

  pub all_goes_on : (xs ys : List A) (x : A) → xs ≡ x ∷ ys → test x ≡ true → list_all test xs ≡ list_all test ys
  all_goes_on xs ys x e f = ap (list_all test) e ∙ ap (λ b. b && list_all test ys) f

  pub all_lost : (xs ys : List A) (x : A) → xs ≡ x ∷ ys → test x ≡ false → list_all test xs ≡ false
  all_lost xs ys x e f = ap (list_all test) e ∙ ap (λ b. b && list_all test ys) f

behind_one : (m n : ℕ) → m ≡ n + 1 → nat_le 1 n ≡ nat_le 2 m
behind_one m zero e = let is : m ≡ 1 = omega (arith, e) in sym (ap (nat_le 2) is)
behind_one m (suc n) e = le-leb 1 (suc n) (omega arith) ∙ sym (le-leb 2 m (omega (arith, e)))

pub one_more : (xs ys : List (List ℕ)) (x : List ℕ) → xs ≡ x ∷ ys → nat_le 1 (length ys) ≡ nat_le 2 (length xs)
one_more xs ys x e = let long : length xs ≡ length ys + 1 = omega (arith, ap length e) in behind_one (length xs) (length ys) long

-- ---- texts at the front of others

pub led_on : (xs ys us vs : List (List ℕ)) (x y : List ℕ) → xs ≡ x ∷ us → ys ≡ y ∷ vs → is_text x y ≡ true → starts_with is_text ys xs ≡ starts_with is_text vs us
led_on xs ys us vs x y e f same =
    ap (λ (l : List (List ℕ)). starts_with is_text l xs) f ∙ ap (λ (l : List (List ℕ)). starts_with is_text (y ∷ vs) l) e ∙ ap (λ t. t && starts_with is_text vs us) same

pub led_not : (xs ys us vs : List (List ℕ)) (x y : List ℕ) → xs ≡ x ∷ us → ys ≡ y ∷ vs → is_text x y ≡ false → starts_with is_text ys xs ≡ false
led_not xs ys us vs x y e f other =
    ap (λ (l : List (List ℕ)). starts_with is_text l xs) f ∙ ap (λ (l : List (List ℕ)). starts_with is_text (y ∷ vs) l) e ∙ ap (λ t. t && starts_with is_text vs us) other

pub led_past : (xs ys us : List (List ℕ)) (x : List ℕ) → xs ≡ x ∷ us → ys ≡ [] → starts_with is_text ys xs ≡ false
led_past xs ys us x e f = ap (λ (l : List (List ℕ)). starts_with is_text l xs) f ∙ ap (λ (l : List (List ℕ)). starts_with is_text [] l) e

pub led_all : (xs ys : List (List ℕ)) → xs ≡ [] → starts_with is_text ys xs ≡ true
led_all xs ys e = ap (λ (l : List (List ℕ)). starts_with is_text ys l) e

pub follow_on : (vs us es : List (List ℕ)) (v : List ℕ) → vs ≡ v ∷ us → starts_with is_text vs es ≡ false → follow vs es ≡ follow us es
follow_on vs us es v e none = ap (λ (l : List (List ℕ)). follow l es) e ∙ ap (λ t. t || follow us es) (sym (ap (λ (l : List (List ℕ)). starts_with is_text l es) e) ∙ none)

pub follow_here : (vs us es : List (List ℕ)) (v : List ℕ) → vs ≡ v ∷ us → starts_with is_text vs es ≡ true → follow vs es ≡ true
follow_here vs us es v e led = ap (λ (l : List (List ℕ)). follow l es) e ∙ ap (λ t. t || follow us es) (sym (ap (λ (l : List (List ℕ)). starts_with is_text l es) e) ∙ led)

pub follow_end : (vs es : List (List ℕ)) → vs ≡ [] → follow vs es ≡ starts_with is_text vs es
follow_end vs es e = ap (λ (l : List (List ℕ)). follow l es) e ∙ ap (λ (l : List (List ℕ)). starts_with is_text l es) (sym e)
