-- The numbers that the first bytes of a key make.
use Rattle.std.specs.Prelude.{◌≡◌, ◌+◌, ℕ, zero, suc, List, [], ◌∷◌, drop}
use Rattle.std.specs.Int.{w64, from_be_bytes}
use Rattle.std.specs.declared.cmp.Ordering.{Ordering}
use Rattle.std.specs.declared.cmp.Ordering.TheVariants.{Equal}
use Rattle.std.specs.Ordering.{nat_cmp, ordering_then}
use Rattle.std.specs.Cmp.Lexicographic.{slice_cmp}

-- of the eight from a place on, the greatest first; those that are missing count as 0
unfoldable pub front_at : ℕ → List ℕ → ℕ
front_at at bytes = from_be_bytes w64 (drop at bytes)

-- the order of so many numbers from a place on: the first two that differ decide
abbrev pub by_front : ℕ → ℕ → List ℕ → List ℕ → Ordering
by_front zero at xs ys = Equal
by_front (suc n) at xs ys = ordering_then (nat_cmp (front_at at xs) (front_at at ys)) (by_front n (at + 8) xs ys)

-- where an order is not Equal, it is that of the bytes
abbrev pub Foresees : Ordering → List ℕ → List ℕ → Type 0
Foresees o xs ys = ordering_then o (slice_cmp nat_cmp xs ys) ≡ slice_cmp nat_cmp xs ys

abbrev pub AreZeros : List ℕ → Type 0
AreZeros [] = Unit {0}
AreZeros (n ∷ ns) = (n ≡ 0) × AreZeros ns
