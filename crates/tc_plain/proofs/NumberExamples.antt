-- Worked examples of the numbers of texts, in units of 10 ^ -9, and of tokens.
use Rattle.std.specs.Prelude.{◌≡◌, pos, negsuc, [], ◌∷◌, codes, refl}
use Rattle.tc_base.specs.Decimal.{text_number, digits, behind_digits, decimal, nine}
use Rattle.tc_model.specs.Texts.{tokens}

-- nine decimals are kept; what is no number behind one is passed over
below_zero : text_number (codes " -3.14159265358979") ≡ negsuc 3141592652
unfolding text_number digits behind_digits decimal nine
below_zero = refl

letters_behind : text_number (codes "12abc") ≡ pos 12000000000
unfolding text_number digits behind_digits decimal nine
letters_behind = refl

no_whole_part : text_number (codes ".5") ≡ pos 500000000
unfolding text_number digits behind_digits decimal nine
no_whole_part = refl

no_number : text_number (codes "x") ≡ pos 0
unfolding text_number digits behind_digits decimal nine
no_number = refl

saturated : text_number (codes "9999999999999999999") ≡ pos 999999999999999999000000000
unfolding text_number digits behind_digits decimal nine
saturated = refl

tokens_of : tokens (codes ", red,  blue ") ≡ codes "red" ∷ codes "blue" ∷ []
tokens_of = refl
