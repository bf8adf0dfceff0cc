-- The part of a tree's key before its first zero byte is the column's value.
use Rattle.std.proofs.Common.{◌≡◌, ◌∙◌, ℕ, suc, ◌+◌, Bool, true, false, cond, not, List, [], ◌∷◌, ◌++◌, length, take, refl, ap, arith}
use Rattle.std.specs.Prelude.{◌==◌, nat_le}
use Rattle.std.specs.List.{list_any, prefix_len}
use Rattle.std.proofs.lemmas.Bool.{and_parts, or_parts}
use Rattle.tc_base.specs.Orders.{value_part}
use Rattle.td_index.specs.Entries.{entry}
use Rattle.tc_model.specs.Rows.{is_part}

pub not_is : (b : Bool) → not b ≡ true → b ≡ false
not_is true e = absurd cc
not_is false e = refl

one_on : (n : ℕ) → 1 + n ≡ suc n
one_on n = omega arith

pub no_zero : (value : List ℕ) → is_part value ≡ true → list_any (λ b. b == 0) value ≡ false
no_zero value h = not_is (list_any (λ b. b == 0) value) (and_parts (nat_le (length value) 1048576) (not (list_any (λ b. b == 0) value)) h).1

-- of a value without a zero byte
pub value_is : (value key : List ℕ) → list_any (λ b. b == 0) value ≡ false → value_part (value ++ 0 ∷ key) ≡ value
unfolding value_part
value_is [] key none = refl
value_is (b ∷ value) key none =
    let parts = or_parts (b == 0) (list_any (λ b. b == 0) value) none in
    ap (λ (t : Bool). take (cond (not t) (1 + prefix_len (λ b. not (b == 0)) (value ++ 0 ∷ key)) 0) (b ∷ (value ++ 0 ∷ key))) parts.0
    ∙ ap (λ (n : ℕ). take n (b ∷ (value ++ 0 ∷ key))) (one_on (prefix_len (λ b. not (b == 0)) (value ++ 0 ∷ key))) ∙ ap (λ (l : List ℕ). b ∷ l) (value_is value key parts.1)

pub part_is : (value key : List ℕ) → is_part value ≡ true → value_part (entry value key) ≡ value
part_is value key h = value_is value key (no_zero value h)
