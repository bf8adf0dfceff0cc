-- The keys inside a cut are those of the values that meet the operator.
use Rattle.std.proofs.Common.{◌≡◌, ◌↔◌, ℕ, Bool, true, false, List, refl, sym, subst}
use Rattle.std.specs.Prelude.{◌||◌, ◌==◌, Some, nat_eq}
use Rattle.std.specs.List.{starts_with}
use Rattle.std.proofs.lemmas.Bool.{eqb-true}
use Rattle.std.proofs.lemmas.Slice.Eq.{bytes_eq-Decides}
use Rattle.tc_base.specs.Decimal.{text_number}
use Rattle.tc_base.specs.Orders.{lexical}
use Rattle.tc_base.specs.Texts.{is_text}
use Rattle.tc_base.specs.declared.order.Side.TheVariants.{Inside}
use Rattle.td_index.specs.Entries.{entry, has_zero}
use Rattle.tc_model.specs.Operators.{meets}
use Rattle.bt_order.specs.Sides.{side_begun, side_beside}
use Rattle.bt_order.specs.Values.{side_valued, side_beginning}
use Rattle.bt_order.specs.Numbers.{side_numbered}
use Rattle.bt_order.specs.declared.numbers.NumberCut.{NumberCut}
use Rattle.bt_order.proofs.Within.{is_value, is_begun, is_numbered}
use Rattle.td_plan.specs.Spans.{IsFrom, IsMet, IsWithin}
use Rattle.td_plan.proofs.Parting.{value_is}

pub through : {A B C : Type 0} → (A ↔ B) → (B ↔ C) → (A ↔ C)
through f g = (λ a. g.0 (f.0 a), λ c. f.1 (g.1 c))

-- what an operator says under its number
pub numbered : (n k : ℕ) (e value : List ℕ) (P : Type 0) → n ≡ k → P ↔ (meets k (Some value) e ≡ true) → P ↔ IsMet n e value
numbered n k e value P is h = subst (λ (m : ℕ). P ↔ (meets m (Some value) e ≡ true)) (sym is) h

same : (a b : List ℕ) → (a ≡ b) ↔ (is_text a b ≡ true)
same a b = ((bytes_eq-Decides a b).1, (bytes_eq-Decides a b).0)

pub valued : (e value key : List ℕ) → has_zero value ≡ false → (side_valued e (entry value key) ≡ Inside) ↔ (is_text value e ≡ true)
valued e value key h = subst (λ (p : List ℕ). (side_beside (lexical p e) ≡ Inside) ↔ (is_text value e ≡ true)) (sym (value_is value key h)) (through (is_value value e) (same value e))

begun : (e value key : List ℕ) → has_zero value ≡ false → (side_beginning e (entry value key) ≡ Inside) ↔ (starts_with nat_eq value e ≡ true)
begun e value key h = subst (λ (p : List ℕ). (side_begun e p ≡ Inside) ↔ (starts_with nat_eq value e ≡ true)) (sym (value_is value key h)) (is_begun e value)

pub value_covers : (n : ℕ) (v e : List ℕ) → n ≡ 0 → v ≡ e → IsWithin (side_valued v) n e
value_covers n v e none is =
    subst (λ (w : List ℕ). IsWithin (side_valued w) n e) (sym is) (λ value key h. numbered n 0 e value (side_valued e (entry value key) ≡ Inside) none (valued e value key h))

pub begin_covers : (n : ℕ) (v e : List ℕ) → n ≡ 2 → v ≡ e → IsWithin (side_beginning v) n e
begin_covers n v e both is =
    subst (λ (w : List ℕ). IsWithin (side_beginning w) n e) (sym is) (λ value key h. numbered n 2 e value (side_beginning e (entry value key) ≡ Inside) both (begun e value key h))

-- of one number that is in a cut
pub number_covers : (cut : NumberCut) (n : ℕ) (e : List ℕ) → ((value : List ℕ) → IsFrom cut (text_number value) ↔ IsMet n e value) → IsWithin (side_numbered cut.low cut.high) n e
number_covers cut n e h = λ value key part.
    through (is_numbered cut.low cut.high (entry value key))
    (subst (λ (p : List ℕ). IsFrom cut (text_number p) ↔ IsMet n e value) (sym (value_is value key part)) (h value))

pub two_left : (n : ℕ) → (n == 0 || n == 2) ≡ true → (n ≡ 0 → ⊥) → n ≡ 2
two_left n e other = go (n == 0) refl e
  where
    go : (t : Bool) → (n == 0) ≡ t → (t || n == 2) ≡ true → n ≡ 2
    go true z e = absurd (other (eqb-true n 0 z))
    go false z e = eqb-true n 2 e
