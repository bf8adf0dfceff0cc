-- A count of the values of a key, one by one.
use Rattle.std.proofs.Common.{◌≡◌, ◌≤◌, ℕ, zero, suc, ◌+◌, List, [], ◌∷◌, length, drop, refl, sym, ap, ◌∙◌, arith}
use Rattle.std.specs.Prelude.{Some, None, sum_by, slice_get}
use Rattle.std.proofs.lemmas.List.Sums.{sum_by-cons}

-- the bytes of a key's pairs, where the key has so many
abbrev pub sized : ℕ → List (List ℕ) → ℕ
sized key vs = sum_by (λ v. key + length v) vs

-- what was left off so far, and what stays to leave off
pub record Counts (vs : List (List ℕ)) (place key was left had rest : ℕ) : Type 0 where
  pub pairs : left + length vs ≡ was + length (drop place vs)
  pub enough : length (drop place vs) ≤ left
  pub bytes : rest + sized key vs ≡ had + sized key (drop place vs)
  pub some : sized key (drop place vs) ≤ rest

next : (vs : List (List ℕ)) (place : ℕ) (v : List ℕ) → Some v ≡ slice_get vs place → drop place vs ≡ v ∷ drop (place + 1) vs
next [] place v e = absurd cc
next (x ∷ vs) zero v e = let same : v ≡ x = cc in ap (λ y. y ∷ vs) (sym same)
next (x ∷ vs) (suc place) v e = let up : suc place + 1 ≡ suc (place + 1) = omega arith in next vs place v e ∙ ap (λ n. v ∷ drop n (x ∷ vs)) (sym up)

last : (vs : List (List ℕ)) (place : ℕ) → None ≡ slice_get vs place → drop place vs ≡ []
last [] zero e = refl
last [] (suc place) e = refl
last (x ∷ vs) zero e = absurd cc
last (x ∷ vs) (suc place) e = last vs place e

drop_all : (n : ℕ) (vs : List (List ℕ)) → length vs ≤ n → drop n vs ≡ []
drop_all zero [] e = refl
drop_all (suc n) [] e = refl
drop_all zero (x ∷ vs) e = absurd (omega arith)
drop_all (suc n) (x ∷ vs) e = drop_all n vs (omega arith)

pub counts_start : (vs : List (List ℕ)) (key pairs bytes : ℕ) → length vs ≤ pairs → sized key vs ≤ bytes → Counts vs 0 key pairs pairs bytes bytes
counts_start vs key pairs bytes p b = record { pairs = refl; enough = p; bytes = refl; some = b }

-- one more can be left off
pub counts_more : (vs : List (List ℕ)) (place key was left had rest : ℕ) (v : List ℕ) → Counts vs place key was left had rest → Some v ≡ slice_get vs place → (1 ≤ left) × (key + length v ≤ rest)
counts_more vs place key was left had rest v c e =
    let split = next vs place v e in
    let sums : sized key (drop place vs) ≡ (key + length v) + sized key (drop (place + 1) vs) = ap (sized key) split ∙ sum_by-cons (λ (v : List ℕ). key + length v) v (drop (place + 1) vs) in
    let len = ap (λ (l : List (List ℕ)). length l) split in
    (omega (arith, c.enough, len), omega (arith, c.some, sums))

pub counts_step : (vs : List (List ℕ)) (place key was left had rest fewer less : ℕ) (v : List ℕ) → Counts vs place key was left had rest → Some v ≡ slice_get vs place → fewer + 1 ≡ left → less + (key + length v) ≡ rest → Counts vs (place + 1) key was fewer had less
counts_step vs place key was left had rest fewer less v c e p b =
    let split = next vs place v e in
    let sums : sized key (drop place vs) ≡ (key + length v) + sized key (drop (place + 1) vs) = ap (sized key) split ∙ sum_by-cons (λ (v : List ℕ). key + length v) v (drop (place + 1) vs) in
    let len = ap (λ (l : List (List ℕ)). length l) split in
    record {
      pairs = omega (arith, c.pairs, len);
      enough = omega (arith, c.enough, len);
      bytes = omega (arith, c.bytes, sums);
      some = omega (arith, c.some, sums);
    }

pub counts_end : (vs : List (List ℕ)) (place key was left had rest : ℕ) → Counts vs place key was left had rest → None ≡ slice_get vs place → (left + length vs ≡ was) × (rest + sized key vs ≡ had)
counts_end vs place key was left had rest c e =
    let none = last vs place e in
    let len = ap (λ (l : List (List ℕ)). length l) none in
    let sums = ap (sized key) none in
    (omega (arith, c.pairs, len), omega (arith, c.bytes, sums))

-- so many places are all
pub counts_all : (vs : List (List ℕ)) (key was left had rest : ℕ) → Counts vs was key was left had rest → length vs ≤ was → (left + length vs ≡ was) × (rest + sized key vs ≡ had)
counts_all vs key was left had rest c e =
    let none : drop was vs ≡ [] = drop_all was vs e in
    let len = ap (λ (l : List (List ℕ)). length l) none in
    let sums = ap (sized key) none in
    (omega (arith, c.pairs, len), omega (arith, c.bytes, sums))
