-- The items of a list that don't pass, one more.
use Rattle.std.proofs.Common.{◌≡◌, ◌∙◌, ℕ, ◌+◌, ◌<◌, List, sym, ap, subst, arith, inl, inr}
use Rattle.std.specs.Prelude.{Some, slice_get}
use Rattle.std.proofs.lemmas.Bool.{cases_lt}

some_is : {A : Type 0} (a b : A) → Some a ≡ Some b → a ≡ b
some_is a b e = cc

-- what holds of the items in front of a place holds with the one there
pub one_more : {A : Type 0} (P : A → Type 0) (xs : List A) (n : ℕ) (y : A) → slice_get xs n ≡ Some y → P y → ((i : ℕ) (x : A) → i < n → slice_get xs i ≡ Some x → P x)
    → (i : ℕ) (x : A) → i < n + 1 → slice_get xs i ≡ Some x → P x
one_more P xs n y there holds before i x less is = elim (cases_lt i n) [
  | inl front ↦ before i x front is
  | inr back ↦
      let at : i ≡ n = omega (arith, less, back) in
      subst P (some_is y x (sym there ∙ ap (slice_get xs) (sym at) ∙ is)) holds
]
