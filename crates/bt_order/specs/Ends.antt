-- The keys above one.
use Rattle.std.proofs.Common.{◌≡◌, ℕ, Bool, true, false, not, List, refl, ap}
use Rattle.std.specs.Cmp.{IsTotalOrder}
use Rattle.std.specs.Ordering.{is_gt}
use Rattle.std.specs.declared.cmp.Ordering.{Ordering}
use Rattle.tc_base.specs.Orders.{NeverFalls}
use Rattle.tc_base.specs.declared.order.Side.{Side}
use Rattle.bt_order.specs.Rising.{behind_stays, side_rises}
use Rattle.bt_order.specs.Sides.{side}

module _ (cmp : List ℕ → List ℕ → Ordering) where
  -- it isn't in front of them
  abbrev pub is_above : List ℕ → List ℕ → Bool
  is_above key k = is_gt (cmp k key)

  abbrev pub side_above : List ℕ → List ℕ → Side
  side_above key k = side (not (is_above key k)) false

  turned : (a b : Bool) → (a ≡ true → b ≡ true) → not b ≡ true → not a ≡ true
  turned true true h e = e
  turned true false h e = absurd (let bad = h refl in cc)
  turned false b h e = refl

  pub above_never_falls : IsTotalOrder cmp → (key : List ℕ) → NeverFalls cmp (side_above key)
  above_never_falls total key =
      side_rises cmp (λ k. not (is_above key k)) (λ k. false)
      (λ x y less. turned (is_above key x) (is_above key y) (behind_stays total x y key (ap is_gt less)))
      (λ x y less e. absurd cc)
