-- The number of a text is bounded.
use Rattle.std.proofs.Common.{◌≡◌, ℕ, suc, ◌+◌, ◌-◌, ◌*◌, ◌^◌, ◌<◌, ◌≤◌, ℤ, Bool, true, false, cond, List, [], ◌∷◌, length, drop, get_or, refl, subst, arith, inl, inr, ◌++◌, replicate, length-append, length-take-le}
use Rattle.std.specs.Prelude.{◌==◌, ◌≤ℤ◌, nat_le, pos}
use Rattle.std.specs.List.{prefix_len, fold}
use Rattle.std.proofs.Math.IntN.{neg_ℤ}
use Rattle.std.proofs.lemmas.Bool.{cases_lt}
use Rattle.std.proofs.lemmas.Int.{ints}
use Rattle.std.proofs.lemmas.List.{get_or_past, length-replicate}
use Rattle.std.proofs.lemmas.List.Sums.{prefix_len-le-length}
use Rattle.tc_base.specs.Decimal.{is_digit, digits, behind_digits, decimal, fraction, nine, magnitude, signed, text_number}
use Rattle.tc_base.proofs.Decimals.{ten_more, nine_in, nine_past, in_run}

-- no byte is above the digit 9
abbrev AreSmall : List ℕ → Type 0
AreSmall ds = (i : ℕ) → get_or ds i 0 ≤ 57

below : (ds : List ℕ) (n k : ℕ) → n < 10 ^ k → AreSmall ds → fold (λ m d. m * 10 + (d - 48)) n ds < 10 ^ (k + length ds)
below [] n k h small = subst (λ (m : ℕ). n < 10 ^ m) (let e : k ≡ k + length {A = ℕ} [] = omega arith in e) h
below (d ∷ ds) n k h small =
    let first : d ≤ 57 = small 0 in
    subst (λ (m : ℕ). fold (λ m d. m * 10 + (d - 48)) (n * 10 + (d - 48)) ds < 10 ^ m) (let e : (k + 1) + length ds ≡ k + length (d ∷ ds) = omega arith in e)
    (below ds (n * 10 + (d - 48)) (k + 1) (ten_more n k (d - 48) h (omega (arith, first))) (λ i. small (suc i)))

nine_long : (ds : List ℕ) → length (nine ds) ≡ 9
unfolding nine
nine_long ds = length-take-le 9 (ds ++ replicate 9 48) (omega (arith, length-append ds (replicate 9 48), length-replicate {A = ℕ} 9 48))

small_nine : (rest : List ℕ) → AreSmall (nine (digits rest))
small_nine rest i = elim (cases_lt i 9) [
  | inl few ↦ elim (cases_lt i (prefix_len is_digit rest)) [
    | inl less ↦ omega (arith, nine_in rest (prefix_len is_digit rest) i refl (prefix_len-le-length is_digit rest) few less, in_run rest i less)
    | inr past ↦ omega (arith, nine_past rest (prefix_len is_digit rest) i refl (prefix_len-le-length is_digit rest) few past)
  ]
  | inr past ↦ omega (arith, get_or_past (nine (digits rest)) i 0 (omega (arith, past, nine_long (digits rest))))
]

decimals : (rest : List ℕ) → decimal (nine (digits rest)) < 10 ^ 9
unfolding decimal
decimals rest = subst (λ (m : ℕ). fold (λ m d. m * 10 + (d - 48)) 0 (nine (digits rest)) < 10 ^ m) (let e : 0 + length (nine (digits rest)) ≡ 9 = omega (arith, nine_long (digits rest)) in e) (below (nine (digits rest)) 0 0 (omega arith) (small_nine rest))

no_digits : digits [] ≡ []
unfolding digits
no_digits = refl

fractions : (rest : List ℕ) → decimal (nine (fraction rest)) < 10 ^ 9
fractions [] = subst (λ (l : List ℕ). decimal (nine l) < 10 ^ 9) no_digits (decimals [])
fractions (b ∷ rest) = go (b == 46)
  where
    go : (t : Bool) → decimal (nine (cond t (digits rest) [])) < 10 ^ 9
    go true = decimals rest
    go false = subst (λ (l : List ℕ). decimal (nine l) < 10 ^ 9) no_digits (decimals [])

magnitudes : (bytes : List ℕ) → magnitude bytes < 10 ^ 27
magnitudes bytes = omega (arith, fractions (behind_digits bytes))

-- ---- with its sign

abbrev Bounded : ℤ → Type 0
Bounded z = (neg_ℤ (pos (10 ^ 27)) ≤ℤ z) × (z ≤ℤ pos (10 ^ 27))

up : (m : ℕ) → m < 10 ^ 27 → Bounded (pos m)
up m less = (omega (arith, ints, less), omega (arith, ints, less))

down : (m : ℕ) → m < 10 ^ 27 → Bounded (neg_ℤ (pos m))
down m less = (omega (arith, ints, less), omega (arith, ints, less))

signs : (bytes : List ℕ) → Bounded (signed bytes)
signs [] = up (magnitude []) (magnitudes [])
signs (b ∷ rest) = go (b == 45) (b == 43)
  where
    go : (s t : Bool) → Bounded (cond s (neg_ℤ (pos (magnitude rest))) (cond t (pos (magnitude rest)) (pos (magnitude (b ∷ rest)))))
    go true t = down (magnitude rest) (magnitudes rest)
    go false true = up (magnitude rest) (magnitudes rest)
    go false false = up (magnitude (b ∷ rest)) (magnitudes (b ∷ rest))

pub bounded : (text : List ℕ) → Bounded (text_number text)
unfolding text_number
bounded text = signs (drop (prefix_len (λ b. nat_le b 32) text) text)
