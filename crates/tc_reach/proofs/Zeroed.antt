-- Zeros written piece by piece.
use Rattle.std.proofs.Common.{◌≡◌, ◌∙◌, ℕ, ◌+◌, ◌-◌, ◌≤◌, List, [], ◌++◌, length, take, replicate, refl, sym, ap, arith, append_assoc}
use Rattle.std.proofs.lemmas.List.{append-nil, length-replicate, places, replicate-append-replicate, same_lists, take-replicate}
use Rattle.tc_base.specs.Files.{Files, wrote}
use Rattle.tc_space.specs.Effects.{Changes}

wrote_nothing : (at : ℕ) (b : List ℕ) → wrote at [] b ≡ b
unfolding wrote
wrote_nothing at b = same_lists _ _ (grind (arith, places)) (λ i d h. grind (arith, places))

wrote_more : (from at n : ℕ) (b : List ℕ) → from ≤ at → from ≤ length b → wrote at (replicate n 0) (wrote from (replicate (at - from) 0) b) ≡ wrote from (replicate (at + n - from) 0) b
unfolding wrote
wrote_more from at n b on inside = same_lists _ _ (grind (arith, places)) (λ i d h. grind (arith, places))

length_wrote_least : (at : ℕ) (x b : List ℕ) → at ≤ length b → at + length x ≤ length (wrote at x b)
unfolding wrote
length_wrote_least at x b le = grind (arith, places)

pub zeros_front : (n m : ℕ) (z : List ℕ) → z ≡ replicate m 0 → n ≤ m → take n z ≡ replicate n 0
zeros_front n m z e le = ap (take n) e ∙ take-replicate n m 0 le

module _ {S : Type 0} (now : S → Files) (file : ℕ) where
  pub zeros_none : (a : S) (from k : ℕ) → k ≡ 0 → Changes now file (wrote from (replicate k 0) (now a file)) a a
  zeros_none a from k none = record { here = sym (ap (λ n. wrote from (replicate n 0) (now a file)) none ∙ wrote_nothing from (now a file)); others = λ g ne. refl }

  pub zeros_then : (a b c : S) (from at n : ℕ) (x : List ℕ) → Changes now file (wrote from (replicate (at - from) 0) (now a file)) a b → Changes now file (wrote at x (now b file)) b c → x ≡ replicate n 0 → from ≤ at → from ≤ length (now a file) → Changes now file (wrote from (replicate (at + n - from) 0) (now a file)) a c
  zeros_then a b c from at n x first second is on inside = record {
    here = second.here ∙ (λ i. wrote at (is i) (first.here i)) ∙ wrote_more from at n (now a file) on inside;
    others = λ g ne. second.others g ne ∙ first.others g ne;
  }

  pub zeros_inside : (a b : S) (from at : ℕ) → Changes now file (wrote from (replicate (at - from) 0) (now a file)) a b → from ≤ at → from ≤ length (now a file) → at ≤ length (now b file)
  zeros_inside a b from at first on inside =
      let z : length {A = ℕ} (replicate (at - from) 0) ≡ at - from = length-replicate (at - from) 0 in
      omega (arith, ap (λ (l : List ℕ). length l) first.here, length_wrote_least from (replicate (at - from) 0) (now a file) inside, z, on)

-- zeros behind bytes, some at a time
pub more_zeros : (old : List ℕ) (count rest n : ℕ) → n ≤ rest → rest ≤ count → n ≤ 256 → (old ++ replicate (count - rest) 0) ++ take n (replicate 256 0) ≡ old ++ replicate (count - (rest - n)) 0
more_zeros old count rest n le within few =
    let t : ◌≡◌ {A = List ℕ} (take n (replicate 256 0)) (replicate n 0) = take-replicate n 256 0 few in
    let s : count - rest + n ≡ count - (rest - n) = omega arith in
    append_assoc old (replicate (count - rest) 0) (take n (replicate 256 0)) ∙ ap (λ (l : List ℕ). old ++ l) (ap (λ (l : List ℕ). replicate (count - rest) 0 ++ l) t ∙ replicate-append-replicate (count - rest) n 0 ∙ ap (λ (m : ℕ). replicate m 0) s)

pub no_zeros : (old : List ℕ) (count : ℕ) → old ≡ old ++ replicate (count - count) 0
no_zeros old count = let z : count - count ≡ 0 = omega arith in rw z (sym (append-nil old))
