-- What a file holds tells of an id.
use Rattle.std.proofs.Common.{◌≡◌, inl, inr, ℕ, ◌<◌, List, arith}
use Rattle.std.specs.Prelude.{None}
use Rattle.std.specs.FinMap.{get}
use Rattle.tc_model.specs.Arrays.{Array}
use Rattle.tc_fixed.specs.declared.tally.Tally.{Tally}
use Rattle.tc_fixed.specs.Holding.{Holds}
use Rattle.tc_fixed.proofs.Tallied.{held_or_not, none_below}

module _ (width limit : ℕ) (t : Tally) (m : Array) (bytes : List ℕ) (id : ℕ) (h : Holds width limit t m bytes) where
  pub none_at_zero : id ≡ 0 → get m id ≡ None
  none_at_zero zero = elim (held_or_not (get m id)) [
    | inl held ↦ absurd (omega (arith, zero, (h.fills.map.within id held).0))
    | inr none ↦ none
  ]

  pub none_low : id < t.least → get m id ≡ None
  none_low low = none_below m id (omega (arith, low, h.counts.least))

  pub none_high : t.greatest < id → get m id ≡ None
  none_high high = elim (held_or_not (get m id)) [
    | inl held ↦ absurd (omega (arith, high, (h.fills.map.within id held).1))
    | inr none ↦ none
  ]
