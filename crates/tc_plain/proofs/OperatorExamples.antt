-- Each operator met and not met.
use Rattle.std.specs.Prelude.{◌≡◌, true, false, [], ◌&&◌, not, codes, Some, None, refl}
use Rattle.tc_base.specs.Decimal.{text_number, digits, behind_digits, decimal, nine}
use Rattle.tc_model.specs.Operators.{meets, is_operator, is_complete}

equals : meets 0 (Some (codes "ab")) (codes "ab") && not (meets 0 (Some (codes "ab")) (codes "a")) ≡ true
equals = refl

includes : meets 1 (Some (codes "xaby")) (codes "ab") && not (meets 1 (Some (codes "xa")) (codes "ab")) ≡ true
includes = refl

begins : meets 2 (Some (codes "abc")) (codes "ab") && not (meets 2 (Some (codes "xab")) (codes "ab")) ≡ true
begins = refl

ends : meets 3 (Some (codes "xab")) (codes "ab") && not (meets 3 (Some (codes "abx")) (codes "ab")) ≡ true
ends = refl

all_tokens : meets 4 (Some (codes "red, blue green")) (codes "green red") && not (meets 4 (Some (codes "red, blue")) (codes "green red")) ≡ true
all_tokens = refl

some_token : meets 5 (Some (codes "red, blue")) (codes "green red") && not (meets 5 (Some (codes "red, blue")) (codes "green")) ≡ true
some_token = refl

is_token : meets 6 (Some (codes "red")) (codes "green,red") && not (meets 6 (Some (codes "re")) (codes "green,red")) ≡ true
is_token = refl

number_equal : meets 8 (Some (codes "02")) (codes "2.0") && not (meets 8 (Some (codes "2.01")) (codes "2")) ≡ true
unfolding text_number digits behind_digits decimal nine
number_equal = refl

number_greater : meets 9 (Some (codes "3")) (codes "2") && not (meets 9 (Some (codes "2")) (codes "2")) ≡ true
unfolding text_number digits behind_digits decimal nine
number_greater = refl

number_at_least : meets 10 (Some (codes "2")) (codes "2") && not (meets 10 (Some (codes "-3")) (codes "-2")) ≡ true
unfolding text_number digits behind_digits decimal nine
number_at_least = refl

number_less : meets 11 (Some (codes "-3")) (codes "-2") && not (meets 11 (Some (codes "2")) (codes "2")) ≡ true
unfolding text_number digits behind_digits decimal nine
number_less = refl

number_at_most : meets 12 (Some (codes "2")) (codes "2") && not (meets 12 (Some (codes "2.5")) (codes "2")) ≡ true
unfolding text_number digits behind_digits decimal nine
number_at_most = refl

-- in either order, both included, and a third token is of no concern
number_between : meets 13 (Some (codes "3")) (codes "3 1 9") && not (meets 13 (Some (codes "4")) (codes "3 1 9")) ≡ true
unfolding text_number digits behind_digits decimal nine
number_between = refl

number_of_token : meets 14 (Some (codes "2")) (codes "1,2.0") && not (meets 14 (Some (codes "2")) (codes "1,3")) ≡ true
unfolding text_number digits behind_digits decimal nine
number_of_token = refl

-- one after the other, in their order
one_after_the_other : meets 15 (Some (codes "blue sky, red")) (codes "blue,sky") && (not (meets 15 (Some (codes "sky blue")) (codes "blue sky")) && meets 15 (Some (codes "red")) (codes ",")) ≡ true
one_after_the_other = refl

as_tokens : meets 16 (Some (codes "sky blue")) (codes "blue sky") && (not (meets 16 (Some (codes "blue")) (codes "blue sky")) && meets 17 (Some (codes "blue sky")) (codes "red sky")) ≡ true
as_tokens = refl

-- what a row lacks meets none
lacking : meets 0 None [] ≡ false
lacking = refl

accepted : is_operator 14 && (not (is_operator 7) && (not (is_operator 18) && (is_complete 13 (codes "1,2") && not (is_complete 13 (codes "1,"))))) ≡ true
accepted = refl
