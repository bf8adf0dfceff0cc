-- Requests that update, and one more.
use Rattle.std.proofs.Common.{◌≡◌, ◌∙◌, ℕ, zero, suc, ◌+◌, ◌<◌, List, [], ◌∷◌, ◌++◌, length, take, sym, subst, ap, arith}
use Rattle.std.specs.Prelude.{All}
use Rattle.std.proofs.lemmas.List.Elements.{All-append, All-cons, All-nil}
use Rattle.std.proofs.Math.ListN.{get_or}
use Rattle.ty_ulog.specs.Updates.{IsUpdating}

one_more : {A : Type 0} (xs : List A) (i : ℕ) (x : A) → i < length xs → x ≡ get_or xs i x → take (i + 1) xs ≡ take i xs ++ x ∷ []
one_more [] i x lt is = absurd (omega (arith, lt))
one_more (y ∷ xs) zero x lt is = ap (λ z. z ∷ []) (sym is)
one_more (y ∷ xs) (suc i) x lt is = ap (λ n. take n (y ∷ xs)) (next i) ∙ ap (λ l. y ∷ l) (one_more xs i x (omega (arith, lt)) is)
  where
    next : (i : ℕ) → suc i + 1 ≡ suc (i + 1)
    next i = omega arith

pub updating_more : (xs : List (List ℕ)) (i : ℕ) (x : List ℕ) → i < length xs → x ≡ get_or xs i x → All IsUpdating (take i xs) → IsUpdating x → All IsUpdating (take (i + 1) xs)
updating_more xs i x lt is all one = subst (All IsUpdating) (sym (one_more xs i x lt is)) (All-append IsUpdating (take i xs) (x ∷ []) all (All-cons IsUpdating x [] one (All-nil IsUpdating)))
