-- None of the cuts falls along its order.
use Rattle.std.proofs.Common.{◌≡◌, ℕ, ◌+◌, zero, suc, ℤ, Bool, true, false, cond, not, List, [], ◌∷◌, Option, Some, None, length, take, refl, sym, ap, ◌∙◌, arith}
use Rattle.std.specs.Prelude.{int_lt, ◌==◌}
use Rattle.std.specs.List.{prefix_len}
use Rattle.std.specs.Cmp.{IsTotalOrder, int_cmp_total}
use Rattle.std.specs.Cmp.Lexicographic.{nat_list_cmp_total}
use Rattle.std.specs.Ordering.{is_lt, is_gt, is_ge, nat_cmp, int_cmp, ordering_then, ordering_reverse}
use Rattle.std.specs.declared.cmp.Ordering.{Ordering}
use Rattle.std.specs.declared.cmp.Ordering.TheVariants.{Less, Equal, Greater}
use Rattle.std.proofs.lemmas.Bool.{ne_eqb}
use Rattle.std.proofs.lemmas.Bool.Decides.{nat_tests}
use Rattle.tc_base.specs.Orders.{NeverFalls, lexical, value_part, by_number, key_number}
use Rattle.bt_order.specs.Keys.{is_past, side_in}
use Rattle.bt_order.specs.Numbers.{side_numbered}
use Rattle.bt_order.specs.Sides.{side_begun, side_beside}
use Rattle.bt_order.specs.Values.{side_valued, side_beginning}
use Rattle.bt_order.specs.Rising.{Rises, before_stays, behind_stays, side_rises}

-- ---- from a key on, and before another

module _ (cmp : List ℕ → List ℕ → Ordering) where
  stays : (o p : Ordering) → (is_lt p ≡ true → is_lt o ≡ true) → is_ge o ≡ true → is_ge p ≡ true
  stays Less p h e = absurd cc
  stays o Equal h e = refl
  stays o Greater h e = refl
  stays Equal Less h e = absurd (let bad = h refl in cc)
  stays Greater Less h e = absurd (let bad = h refl in cc)

  past_rises : IsTotalOrder cmp → (end : Option (List ℕ)) → Rises cmp (is_past cmp end)
  past_rises total None x y less e = absurd cc
  past_rises total (Some end) x y less e = stays (cmp x end) (cmp y end) (before_stays total x y end (ap is_gt less)) e

  pub stretch_never_falls : IsTotalOrder cmp → (first : List ℕ) (end : Option (List ℕ)) → NeverFalls cmp (side_in cmp first end)
  stretch_never_falls total first end =
      side_rises cmp (λ k. is_lt (cmp k first)) (is_past cmp end) (λ x y less. before_stays total x y first (ap is_gt less)) (past_rises total end)

-- ---- by a part of the key: 0 is the least byte, so that the value part never falls

-- no greater
abbrev IsUpTo : List ℕ → List ℕ → Type 0
IsUpTo x y = is_gt (lexical x y) ≡ false

least : (y : List ℕ) → IsUpTo [] y
least [] = refl
least (b ∷ y) = refl

then_upto : (o p q : Ordering) → (is_gt p ≡ false → is_gt q ≡ false) → is_gt (ordering_then o p) ≡ false → is_gt (ordering_then o q) ≡ false
then_upto Less p q h up = refl
then_upto Equal p q h up = h up
then_upto Greater p q h up = up

take_upto : (n : ℕ) (x y : List ℕ) → IsUpTo x y → IsUpTo (take n x) (take n y)
take_upto zero x y up = refl
take_upto (suc n) [] y up = least (take (suc n) y)
take_upto (suc n) (a ∷ x) [] up = absurd cc
take_upto (suc n) (a ∷ x) (b ∷ y) up = then_upto (nat_cmp a b) (lexical x y) (lexical (take n x) (take n y)) (take_upto n x y) up

part_none : (y : List ℕ) → value_part (0 ∷ y) ≡ []
unfolding value_part
part_none y = refl

part_empty : value_part [] ≡ []
unfolding value_part
part_empty = refl

one_more : (n : ℕ) → 1 + n ≡ suc n
one_more n = omega arith

part_more : (a : ℕ) (y : List ℕ) → value_part (suc a ∷ y) ≡ suc a ∷ value_part y
unfolding value_part
part_more a y =
    ap (λ (b : Bool). take (cond (not b) (1 + prefix_len (λ b. not (b == 0)) y) 0) (suc a ∷ y)) (ne_eqb (suc a) 0 (λ e. cc))
    ∙ ap (λ (n : ℕ). take n (suc a ∷ y)) (one_more (prefix_len (λ b. not (b == 0)) y))

-- a number that isn't 0 is greater
behind_zero : (a : ℕ) (o : Ordering) → is_gt (ordering_then (nat_cmp (suc a) 0) o) ≡ false → ⊥
behind_zero a o up = absurd (let bad = sym (ap (λ (p : Ordering). is_gt (ordering_then p o)) greater) ∙ up in cc)
  where
    greater : nat_cmp (suc a) 0 ≡ Greater
    greater = grind (arith, nat_tests)

part_upto : (x y : List ℕ) → IsUpTo x y → IsUpTo (value_part x) (value_part y)
part_upto [] y up = rw part_empty (least (value_part y))
part_upto (a ∷ x) [] up = absurd cc
part_upto (zero ∷ x) (b ∷ y) up = rw (part_none x) (least (value_part (b ∷ y)))
part_upto (suc a ∷ x) (zero ∷ y) up = absurd (behind_zero a (lexical x y) up)
part_upto (suc a ∷ x) (suc b ∷ y) up = rw (part_more a x, part_more b y) (then_upto (nat_cmp (suc a) (suc b)) (lexical x y) (lexical (value_part x) (value_part y)) (part_upto x y) up)

module _ (part : List ℕ → List ℕ) (rises : (x y : List ℕ) → IsUpTo x y → IsUpTo (part x) (part y)) where
  beside_rises : (value : List ℕ) → NeverFalls lexical (λ key. side_beside (lexical (part key) value))
  beside_rises value =
      side_rises lexical (λ k. is_lt (lexical (part k) value)) (λ k. is_gt (lexical (part k) value))
      (λ x y less. before_stays nat_list_cmp_total (part x) (part y) value (rises x y (ap is_gt less)))
      (λ x y less. behind_stays nat_list_cmp_total (part x) (part y) value (rises x y (ap is_gt less)))

pub value_never_falls : (value : List ℕ) → NeverFalls lexical (side_valued value)
value_never_falls value = beside_rises value_part part_upto value

pub prefix_never_falls : (prefix : List ℕ) → NeverFalls lexical (side_begun prefix)
prefix_never_falls prefix = beside_rises (take (length prefix)) (take_upto (length prefix)) prefix

pub begin_never_falls : (prefix : List ℕ) → NeverFalls lexical (side_beginning prefix)
begin_never_falls prefix = beside_rises (λ key. take (length prefix) (value_part key)) (λ x y up. take_upto (length prefix) (value_part x) (value_part y) (part_upto x y up)) prefix

-- ---- by the number

first_upto : (o p : Ordering) → ordering_then o p ≡ Less → is_gt o ≡ false
first_upto Less p e = refl
first_upto Equal p e = refl
first_upto Greater p e = absurd cc

number_upto : (x y : List ℕ) → by_number x y ≡ Less → is_gt (int_cmp (key_number x) (key_number y)) ≡ false
number_upto x y less = first_upto (int_cmp (key_number x) (key_number y)) (lexical x y) less

lt_tested : (a b : Bool) → is_lt (cond a Less (cond b Greater Equal)) ≡ a
lt_tested true b = refl
lt_tested false true = refl
lt_tested false false = refl

lt_is : (m n : ℤ) → is_lt (int_cmp m n) ≡ int_lt m n
lt_is m n = lt_tested (int_lt m n) (int_lt n m)

reversed : (o : Ordering) → is_gt (ordering_reverse o) ≡ is_lt o
reversed Less = refl
reversed Equal = refl
reversed Greater = refl

gt_is : (m n : ℤ) → is_gt (int_cmp n m) ≡ int_lt m n
gt_is m n = ap is_gt (int_cmp_total.antisymm n m) ∙ reversed (int_cmp m n) ∙ lt_is m n

pub number_never_falls : (low high : ℤ) → NeverFalls by_number (side_numbered low high)
number_never_falls low high =
    side_rises by_number (λ k. int_lt (key_number k) low) (λ k. int_lt high (key_number k))
    (λ x y less e. sym (lt_is (key_number x) low) ∙ before_stays int_cmp_total (key_number x) (key_number y) low (number_upto x y less) (lt_is (key_number y) low ∙ e))
    (λ x y less e. sym (gt_is high (key_number y)) ∙ behind_stays int_cmp_total (key_number x) (key_number y) high (number_upto x y less) (gt_is high (key_number x) ∙ e))
