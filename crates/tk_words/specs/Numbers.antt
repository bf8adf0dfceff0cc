-- Numbers: 1 to 20 digits, within a range.
use Rattle.std.specs.Prelude.{ℕ, ◌&&◌, Bool, length, Option, nat_le}
use Rattle.std.specs.List.{list_all}
use Rattle.tc_base.specs.Decimal.{is_digit, decimal}
use Rattle.tk_words.specs.declared.numbers.Range.{Range}
use Rattle.tk_words.specs.Words.{Word, ◌>>=◌, only_if}

abbrev pub are_digits : Word → Bool
are_digits w = nat_le 1 (length w) && (nat_le (length w) 20 && list_all is_digit w)

abbrev pub is_in : Range → ℕ → Bool
is_in range n = nat_le range.least n && nat_le n range.most

abbrev pub number : Range → Word → Option ℕ
number range w = only_if (are_digits w) (decimal w) >>= λ n. only_if (is_in range n) n
