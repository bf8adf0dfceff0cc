-- A value that was read to the front of longer bytes.
use Rattle.std.proofs.Common.{◌≡◌, ◌∙◌, ◌≤◌, ℕ, zero, suc, List, [], ◌∷◌, ◌++◌, length, take, refl, sym, ap, arith}
use Rattle.std.specs.Prelude.{Option, Some, option_map, unwrap_or}
use Rattle.tc_fixed.specs.Looks.{IsReadAs}

front_of : (n l : ℕ) (a x : List ℕ) → n ≤ l → n ≤ length a → take n (take l (a ++ x)) ≡ take n a
front_of zero l a x less within = refl
front_of (suc n) zero a x less within = absurd (omega (arith, less))
front_of (suc n) (suc l) [] x less within = absurd (omega (arith, within))
front_of (suc n) (suc l) (y ∷ a) x less within = ap (λ z. y ∷ z) (front_of n l a x (omega (arith, less)) (omega (arith, within)))

are_there : (n : ℕ) (a : List ℕ) → n ≡ length (take n a) → n ≤ length a
are_there zero a is = omega arith
are_there (suc n) [] is = absurd (omega (arith, is))
are_there (suc n) (y ∷ a) is = omega (arith, are_there n a (omega (arith, is)))

pub read_front : (long most : ℕ) (into rest : List ℕ) (o : Option (List ℕ)) (found : Option ℕ) → found ≡ Some long → long ≤ most → IsReadAs o found into → Some (take long (take most (into ++ rest))) ≡ o
read_front long most into rest o found is less read =
    let got : Some (take long into) ≡ o = ap (option_map (λ n. take n into)) (sym is) ∙ read.value in
    let same : long ≡ length (take long into) = ap (λ (x : Option ℕ). unwrap_or x 0) (sym is ∙ (read.long ∙ ap (option_map length) (sym got))) in
    ap (λ l. Some l) (front_of long most into rest less (are_there long into same)) ∙ got
