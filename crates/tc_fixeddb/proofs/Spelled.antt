-- What the text of a number spells.
use Rattle.std.proofs.Common.{◌≡◌, ◌∙◌, ℕ, ◌+◌, ◌-◌, ◌*◌, ◌^◌, ◌≤◌, ◌<◌, true, false, List, [], ◌∷◌, length, fold, refl, sym, ap, arith}
use Rattle.std.specs.Prelude.{nat_le}
use Rattle.std.specs.Fmt.{decimal}
use Rattle.std.specs.List.{list_all}
use Rattle.std.specs.Str.Parse.{AllDigits, digits_value_after}
use Rattle.std.specs.Char.{digit_value}
use Rattle.std.proofs.lemmas.Bool.{and_from, le-leb}
use Rattle.std.proofs.lemmas.Fmt.{decimal_is_IsNumeral, length-decimal-le}
use Rattle.std.proofs.lemmas.Str.{digit_value_digit}
use Rattle.std.proofs.lemmas.Str.Parse.{digit_from_value}
use Rattle.tc_base.specs.Decimal.{is_digit}
use Rattle.tc_model.specs.Texts.{is_number, number}

all_digits : (ds : List ℕ) → AllDigits 10 ds → list_all is_digit ds ≡ true
all_digits [] each = refl
all_digits (c ∷ cs) each =
    let range = digit_from_value c each.0 in
    and_from (is_digit c) (list_all is_digit cs) (and_from (nat_le 48 c) (nat_le c 57) (le-leb 48 c range.0) (le-leb c 57 range.1)) (all_digits cs each.1)

same_value : (n : ℕ) (ds : List ℕ) → AllDigits 10 ds → fold (λ n d. n * 10 + (d - 48)) n ds ≡ digits_value_after 10 n ds
same_value n [] each = refl
same_value n (c ∷ cs) each =
    let next : n * 10 + (c - 48) ≡ n * 10 + digit_value c = omega (arith, digit_value_digit c (digit_from_value c each.0)) in
    ap (λ m. fold (λ n d. n * 10 + (d - 48)) m cs) next ∙ same_value (n * 10 + digit_value c) cs each.1

-- the text of a number is one to twenty digits that spell it
pub spells : (p : List ℕ) (j : ℕ) → j < 2 ^ 64 → p ≡ decimal j → (is_number 20 p ≡ true) × (number p ≡ j)
spells p j small is =
    let all = decimal_is_IsNumeral j small in
    let digits : is_number 20 (decimal j) ≡ true = and_from _ _ (le-leb 1 (length (decimal j)) all.0.0)
    (and_from _ _ (le-leb (length (decimal j)) 20 (length-decimal-le 20 j (omega arith) (omega (arith, small)) small)) (all_digits (decimal j) all.0.1)) in
    (ap (is_number 20) is ∙ digits, ap number is ∙ same_value 0 (decimal j) all.0.1 ∙ all.1)

-- no id has a text that spells no number, or another one
pub none_spelled : (p : List ℕ) → is_number 20 p ≡ false → (j : ℕ) → 1 ≤ j → j ≤ 2 ^ 40 → p ≡ decimal j → ⊥
none_spelled p no_number j one most is = let never : false ≡ true = sym no_number ∙ (spells p j (omega (arith, most)) is).0 in absurd cc

pub other_spelled : (p : List ℕ) (n : ℕ) → n ≡ number p → (j : ℕ) → 1 ≤ j → j ≤ 2 ^ 40 → p ≡ decimal j → n ≡ j
other_spelled p n value j one most is = value ∙ (spells p j (omega (arith, most)) is).1
