-- A search by halves: where what is in front comes first.
use Rattle.std.proofs.Common.{◌≡◌, ℕ, ◌+◌, ◌<◌, ◌≤◌, List, Bool, true, false, Some, length, sym, ap, ◌∙◌, ⊎_elim, arith, slice_index_or}
use Rattle.std.specs.Prelude.{slice_get}
use Rattle.std.specs.List.Sorted.{IsPartitionedBy, IsPartitionPoint}
use Rattle.bt_ways.proofs.Keys.{clash, either}
use Rattle.bt_ways.proofs.Spots.{got_at}

module _ {X : Type 0} (key_of : X → List ℕ) (in_front : List ℕ → Bool) (xs : List X) where
  -- those below `low` are in front, and those from `high` on aren't
  pub record Halves (low high : ℕ) : Type 0 where
    pub order : low ≤ high
    pub within : high ≤ length xs
    pub front : IsPartitionedBy (λ x. in_front (key_of x)) xs → (i : ℕ) (d : X) → i < low → in_front (key_of (slice_index_or xs i d)) ≡ true
    pub others : IsPartitionedBy (λ x. in_front (key_of x)) xs → (i : ℕ) (d : X) → high ≤ i → i < length xs → in_front (key_of (slice_index_or xs i d)) ≡ false

  pub halves_start : Halves 0 (length xs)
  halves_start = record {
    order = omega arith;
    within = omega arith;
    front = λ p i d lt. absurd (omega (arith, lt));
    others = λ p i d le lt. absurd (omega (arith, le, lt));
  }

  pub halves_end : (low high : ℕ) → Halves low high → high ≤ low → IsPartitionedBy (λ x. in_front (key_of x)) xs → IsPartitionPoint (λ x. in_front (key_of x) ≡ true) (λ x. in_front (key_of x) ≡ false) xs low
  halves_end low high h end p = (λ i d _ lt. h.front p i d lt, λ i d le lt. h.others p i d (omega (arith, le, end)) lt)

  module _ (low high middle : ℕ) (h : Halves low high) (above : low ≤ middle) (below : middle < high) (key : List ℕ) (is : (x : X) → slice_get xs middle ≡ Some x → key ≡ key_of x) where
    seen : (d : X) (b : Bool) → in_front key ≡ b → in_front (key_of (slice_index_or xs middle d)) ≡ b
    seen d b e = ap in_front (sym (is (slice_index_or xs middle d) (got_at xs middle d (omega (arith, below, h.within))))) ∙ e

    pub halves_up : in_front key ≡ true → Halves (middle + 1) high
    halves_up e = record {
      order = omega (arith, below);
      within = h.within;
      front = λ p i d lt. p i middle d (omega (arith, lt)) (omega (arith, below, h.within)) (seen d true e);
      others = h.others;
    }

    pub halves_down : in_front key ≡ false → Halves low middle
    halves_down e = record {
      order = above;
      within = omega (arith, below, h.within);
      front = h.front;
      others = λ p i d le lt.
          ⊎_elim (λ (up : in_front (key_of (slice_index_or xs i d)) ≡ true). absurd (clash (in_front (key_of (slice_index_or xs middle d))) (p middle i d le lt up) (seen d false e)))
          (λ (down : in_front (key_of (slice_index_or xs i d)) ≡ false). down) (either (in_front (key_of (slice_index_or xs i d))));
    }
