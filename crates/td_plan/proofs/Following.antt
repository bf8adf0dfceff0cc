-- Texts that stand among others one after the other are all among them.
use Rattle.std.proofs.Common.{◌≡◌, ◌∙◌, ℕ, Bool, true, false, List, [], ◌∷◌, length, take, refl, sym, ap, inl, inr}
use Rattle.std.specs.Prelude.{◌||◌, ◌==◌, Some}
use Rattle.std.specs.List.{list_all, starts_with}
use Rattle.std.specs.Cmp.Lexicographic.{pointwise}
use Rattle.std.proofs.lemmas.Bool.{and_parts, and_from, or_cases, eqb-true}
use Rattle.tc_base.specs.Texts.{is_text}
use Rattle.tc_model.specs.Texts.{is_among, tokens}
use Rattle.tc_model.specs.Operators.{all_tokens, follow, meets, some_token}
use Rattle.td_plan.specs.Choices.{asks_all, asks_some}

or_right : (a b : Bool) → b ≡ true → (a || b) ≡ true
or_right true b e = refl
or_right false b e = e

or_left : (a b : Bool) → a ≡ true → (a || b) ≡ true
or_left a b e = ap (λ t. t || b) e

all_more : {A : Type 0} (p q : A → Bool) → ((x : A) → p x ≡ true → q x ≡ true) → (xs : List A) → list_all p xs ≡ true → list_all q xs ≡ true
all_more p q h [] e = refl
all_more p q h (x ∷ xs) e = let both = and_parts (p x) (list_all p xs) e in and_from (q x) (list_all q xs) (h x both.0) (all_more p q h xs both.1)

one_before : (v : List ℕ) (es vs : List (List ℕ)) → list_all (λ t. is_among t vs) es ≡ true → list_all (λ t. is_among t (v ∷ vs)) es ≡ true
one_before v es vs e = all_more (λ t. is_among t vs) (λ t. is_among t (v ∷ vs)) (λ t h. or_right (is_text t v) (is_among t vs) h) es e

-- the front of others
led : (es vs : List (List ℕ)) → pointwise is_text es (take (length es) vs) ≡ true → list_all (λ t. is_among t vs) es ≡ true
led [] vs e = refl
led (e ∷ es) [] h = absurd cc
led (e ∷ es) (v ∷ vs) h =
    let both = and_parts (is_text e v) (pointwise is_text es (take (length es) vs)) h in
    and_from (is_among e (v ∷ vs)) (list_all (λ t. is_among t (v ∷ vs)) es) (or_left (is_text e v) (is_among e vs) both.0) (one_before v es vs (led es vs both.1))

pub follow_all : (vs es : List (List ℕ)) → follow vs es ≡ true → list_all (λ t. is_among t vs) es ≡ true
follow_all [] es h = led es [] h
follow_all (v ∷ vs) es h = go (starts_with is_text (v ∷ vs) es) refl h (λ e. follow_all vs es e)
  where
    go : (b : Bool) → starts_with is_text (v ∷ vs) es ≡ b → (b || follow vs es) ≡ true → (follow vs es ≡ true → list_all (λ t. is_among t vs) es ≡ true) → list_all (λ t. is_among t (v ∷ vs)) es ≡ true
    go true s e later = led es (v ∷ vs) s
    go false s e later = one_before v es vs (later e)

-- ---- what an operator on tokens asks for at least

is_met : (n k : ℕ) (value e : List ℕ) → n ≡ k → meets n (Some value) e ≡ true → meets k (Some value) e ≡ true
is_met n k value e is met = sym (ap (λ m. meets m (Some value) e) is) ∙ met

pub all_needed : (n : ℕ) (value e : List ℕ) → asks_all n ≡ true → meets n (Some value) e ≡ true → all_tokens value e ≡ true
all_needed n value e asks met = elim (or_cases (n == 4) (n == 15 || n == 16) asks) [
  | inl four ↦ is_met n 4 value e (eqb-true n 4 four) met
  | inr other ↦ elim (or_cases (n == 15) (n == 16) other) [
    | inl fifteen ↦ follow_all (tokens value) (tokens e) (is_met n 15 value e (eqb-true n 15 fifteen) met)
    | inr sixteen ↦ is_met n 16 value e (eqb-true n 16 sixteen) met
  ]
]

pub some_needed : (n : ℕ) (value e : List ℕ) → (asks_all n || asks_some n) ≡ true → asks_all n ≡ false → meets n (Some value) e ≡ true → some_token value e ≡ true
some_needed n value e asks not_all met = elim (or_cases (n == 5) (n == 17) (ap (λ t. t || asks_some n) (sym not_all) ∙ asks)) [
  | inl five ↦ is_met n 5 value e (eqb-true n 5 five) met
  | inr seventeen ↦ is_met n 17 value e (eqb-true n 17 seventeen) met
]
