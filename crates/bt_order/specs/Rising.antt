-- A cut by two tests never falls: what shows that a key is in front falls along the order, what shows that it is behind rises.
use Rattle.std.proofs.Common.{◌≡◌, ℕ, ◌≤◌, Bool, true, false, List, refl, sym, ap, ◌∙◌, arith}
use Rattle.std.specs.Cmp.{IsTotalOrder}
use Rattle.std.specs.Ordering.{is_lt, is_gt, ordering_reverse}
use Rattle.std.specs.declared.cmp.Ordering.{Ordering}
use Rattle.std.specs.declared.cmp.Ordering.TheVariants.{Less, Equal, Greater}
use Rattle.std.proofs.lemmas.Cmp.{upto}
use Rattle.tc_base.specs.Orders.{NeverFalls, rank}
use Rattle.tc_base.specs.declared.order.Side.TheVariants.{Inside}
use Rattle.bt_order.specs.Sides.{side}

module _ (cmp : List ℕ → List ℕ → Ordering) where
  abbrev pub Falls : (List ℕ → Bool) → Type 0
  Falls t = (x y : List ℕ) → cmp x y ≡ Less → t y ≡ true → t x ≡ true

  abbrev pub Rises : (List ℕ → Bool) → Type 0
  Rises t = (x y : List ℕ) → cmp x y ≡ Less → t x ≡ true → t y ≡ true

  pub all_inside : NeverFalls cmp (λ _. Inside)
  all_inside x y less = omega arith

ranks : (b a d c : Bool) → (d ≡ true → b ≡ true) → (a ≡ true → c ≡ true) → rank (side b a) ≤ rank (side d c)
ranks true a d c falls rises = omega arith
ranks false a true c falls rises = absurd (let e = falls refl in cc)
ranks false true false true falls rises = omega arith
ranks false true false false falls rises = absurd (let e = rises refl in cc)
ranks false false false true falls rises = omega arith
ranks false false false false falls rises = omega arith

pub side_rises : (cmp : List ℕ → List ℕ → Ordering) (below above : List ℕ → Bool) → Falls cmp below → Rises cmp above → NeverFalls cmp (λ k. side (below k) (above k))
side_rises cmp below above falls rises x y less = ranks (below x) (above x) (below y) (above y) (falls x y less) (rises x y less)

turned_lt : (o : Ordering) → is_lt (ordering_reverse o) ≡ is_gt o
turned_lt Less = refl
turned_lt Equal = refl
turned_lt Greater = refl

unlike : (b c : Bool) → (c ≡ false → b ≡ false) → b ≡ true → c ≡ true
unlike true true h e = refl
unlike true false h e = absurd (let bad = h refl in cc)
unlike false c h e = absurd cc

-- tests of values that rise, beside one value
module _ {K : Type 0} {R : K → K → Ordering} (total : IsTotalOrder R) where
  lt_is : (x v : K) → is_lt (R x v) ≡ is_gt (R v x)
  lt_is x v = ap is_lt (total.antisymm x v) ∙ turned_lt (R v x)

  pub before_stays : (x y v : K) → is_gt (R x y) ≡ false → is_lt (R y v) ≡ true → is_lt (R x v) ≡ true
  before_stays x y v up e = lt_is x v ∙ unlike (is_gt (R v y)) (is_gt (R v x)) (λ h. upto total v x y h up) (sym (lt_is y v) ∙ e)

  pub behind_stays : (x y v : K) → is_gt (R x y) ≡ false → is_gt (R x v) ≡ true → is_gt (R y v) ≡ true
  behind_stays x y v up e = unlike (is_gt (R x v)) (is_gt (R y v)) (λ h. upto total x y v up h) e
