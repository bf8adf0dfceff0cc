-- Where each begins of some that stand one behind the other.
use Rattle.std.proofs.Common.{◌≡◌, ℕ, zero, suc, ◌+◌, ◌<◌, ◌^◌, List, [], ◌∷◌, ◌++◌, length, map, take, drop, refl, sym, ap, subst, ◌∙◌, arith, add-one, length-append}
use Rattle.std.proofs.Math.Seq.{drop-append-add}
use Rattle.std.proofs.lemmas.List.Elements.{All-from_recursion}
use Rattle.std.specs.Prelude.{slice_get, Some}
use Rattle.std.specs.List.{All, AllByRecursion, flat_map, slice_index_or}
use Rattle.bt_slots.specs.Changes.{shifted, MayShift}
use Rattle.bt_slots.specs.Slots.{starts_from}

module _ {A : Type 0} (s : A → List ℕ) where
  pub starts_long : (at : ℕ) (xs : List A) → length (starts_from s at xs) ≡ length xs
  unfolding starts_from
  starts_long at [] = refl
  starts_long at (x ∷ xs) = ap suc (starts_long (at + length (s x)) xs)

  pub start_is : (at : ℕ) (xs : List A) (i d : ℕ) → i < length xs → slice_index_or (starts_from s at xs) i d ≡ at + length (flat_map s (take i xs))
  unfolding starts_from
  start_is at [] i d lt = absurd (omega (arith, lt))
  start_is at (x ∷ xs) zero d lt = omega arith
  start_is at (x ∷ xs) (suc i) d lt = omega (arith, start_is (at + length (s x)) xs i d (omega (arith, lt)), length-append (s x) (flat_map s (take i xs)))

  run_behind : (xs : List A) (i : ℕ) (x : A) → slice_get xs i ≡ Some x → drop (length (flat_map s (take i xs))) (flat_map s xs) ≡ s x ++ flat_map s (drop (suc i) xs)
  run_behind [] i x is = absurd cc
  run_behind (y ∷ ys) zero x is = let same : y ≡ x = cc in ap (λ (z : A). s z ++ flat_map s ys) same
  run_behind (y ∷ ys) (suc i) x is =
      ap (λ (n : ℕ). drop n (s y ++ flat_map s ys)) (length-append (s y) (flat_map s (take i ys)))
      ∙ drop-append-add (s y) (flat_map s ys) (length (flat_map s (take i ys)))
      ∙ run_behind ys i x is

  pub behind_start : (front : List ℕ) (xs : List A) (i : ℕ) (x : A) → slice_get xs i ≡ Some x → drop (length front + length (flat_map s (take i xs))) (front ++ flat_map s xs) ≡ s x ++ flat_map s (drop (i + 1) xs)
  behind_start front xs i x is = drop-append-add front (flat_map s xs) (length (flat_map s (take i xs))) ∙ run_behind xs i x is ∙ ap (λ (n : ℕ). s x ++ flat_map s (drop n xs)) (sym (add-one i))

  pub starts_joined : (at : ℕ) (xs ys : List A) → starts_from s at (xs ++ ys) ≡ starts_from s at xs ++ starts_from s (at + length (flat_map s xs)) ys
  unfolding starts_from
  starts_joined at [] ys = ap (λ (n : ℕ). starts_from s n ys) (omega arith)
  starts_joined at (x ∷ xs) ys =
      ap (λ (l : List ℕ). at ∷ l) (starts_joined (at + length (s x)) xs ys
      ∙ ap (λ (n : ℕ). starts_from s (at + length (s x)) xs ++ starts_from s n ys) (omega (arith, length-append (s x) (flat_map s xs))))

  pub starts_taken : (at : ℕ) (xs : List A) (i : ℕ) → take i (starts_from s at xs) ≡ starts_from s at (take i xs)
  unfolding starts_from
  starts_taken at xs zero = refl
  starts_taken at [] (suc i) = refl
  starts_taken at (x ∷ xs) (suc i) = ap (λ (l : List ℕ). at ∷ l) (starts_taken (at + length (s x)) xs i)

  pub starts_dropped : (at : ℕ) (xs : List A) (i : ℕ) → drop i (starts_from s at xs) ≡ starts_from s (at + length (flat_map s (take i xs))) (drop i xs)
  unfolding starts_from
  starts_dropped at xs zero = ap (λ (n : ℕ). starts_from s n xs) (omega arith)
  starts_dropped at [] (suc i) = refl
  starts_dropped at (x ∷ xs) (suc i) =
      starts_dropped (at + length (s x)) xs i
      ∙ ap (λ (n : ℕ). starts_from s n (drop i xs)) (omega (arith, length-append (s x) (flat_map s (take i xs))))

  moved_on : (a b k : ℕ) (xs : List A) → map (shifted a b) (starts_from s (a + k) xs) ≡ starts_from s (b + k) xs
  unfolding starts_from
  moved_on a b k [] = refl
  moved_on a b k (x ∷ xs) =
      let head : shifted a b (a + k) ≡ b + k = omega arith in
      let old : (a + k) + length (s x) ≡ a + (k + length (s x)) = omega arith in
      let new : b + (k + length (s x)) ≡ (b + k) + length (s x) = omega arith in
      λ i. head i ∷ (ap (λ (n : ℕ). map (shifted a b) (starts_from s n xs)) old ∙ moved_on a b (k + length (s x)) xs ∙ ap (λ (n : ℕ). starts_from s n xs) new) i

  -- all move alike
  pub starts_moved : (a b : ℕ) (xs : List A) → map (shifted a b) (starts_from s a xs) ≡ starts_from s b xs
  starts_moved a b xs = ap (λ (n : ℕ). map (shifted a b) (starts_from s n xs)) (omega arith) ∙ moved_on a b 0 xs ∙ ap (λ (n : ℕ). starts_from s n xs) (omega arith)

  may_on : (a b k : ℕ) (xs : List A) → b + k + length (flat_map s xs) < 2 ^ 64 → AllByRecursion (MayShift a b) (starts_from s (a + k) xs)
  unfolding starts_from
  may_on a b k [] h = tt
  may_on a b k (x ∷ xs) h = (
    record { behind = omega arith; fits = omega (arith, h) },
    subst (λ (n : ℕ). AllByRecursion (MayShift a b) (starts_from s n xs)) (omega arith) (may_on a b (k + length (s x)) xs (omega (arith, h, length-append (s x) (flat_map s xs)))),
  )

  pub may_move : (a b : ℕ) (xs : List A) → b + length (flat_map s xs) < 2 ^ 64 → All (MayShift a b) (starts_from s a xs)
  may_move a b xs h = All-from_recursion (MayShift a b) (starts_from s a xs) (subst (λ (n : ℕ). AllByRecursion (MayShift a b) (starts_from s n xs)) (omega arith) (may_on a b 0 xs (omega (arith, h))))
