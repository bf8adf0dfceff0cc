-- Texts of numbers, and the parts that a text has.
use Rattle.std.specs.Prelude.{ℕ, ◌+◌, ◌-◌, ◌*◌, Bool, ◌&&◌, ◌||◌, ◌==◌, List, [], ◌∷◌, ◌++◌, length, filter, nat_le, Option, Some, None, if◌then◌else◌}
use Rattle.std.specs.List.{list_any, list_all, slice_split, fold}
use Rattle.tc_base.specs.Decimal.{is_digit}
use Rattle.tc_base.specs.Texts.{is_text}

-- one of some texts
abbrev pub is_among : List ℕ → List (List ℕ) → Bool
is_among a texts = list_any (is_text a) texts

-- from one to so many digits
abbrev pub is_number : ℕ → List ℕ → Bool
is_number most text = nat_le 1 (length text) && (nat_le (length text) most && list_all is_digit text)

-- the number that digits spell
abbrev pub number : List ℕ → ℕ
number digits = fold (λ n d. n * 10 + (d - 48)) 0 digits

-- a count of one to ten digits
abbrev pub count_of : List ℕ → Option ℕ
count_of text = if is_number 10 text then Some (number text) else None

-- a text that begins with a minus: of one to ten digits behind it no limit, but -0 is zero
abbrev pub negative : List ℕ → Option (Option ℕ)
negative digits = if is_number 10 digits then (if number digits == 0 then Some (Some 0) else Some None) else None

abbrev pub positive : List ℕ → Option (Option ℕ)
positive digits = if is_number 10 digits then Some (Some (number digits)) else None

-- the maximum that a text spells, and none where it is negative
abbrev pub maximum_of : List ℕ → Option (Option ℕ)
maximum_of [] = None
maximum_of (b ∷ rest) = if b == 45 then negative rest else positive (b ∷ rest)

-- the parts between zero bytes; of no bytes one empty part
abbrev pub parts : List ℕ → List (List ℕ)
parts text = slice_split (λ b. b == 0) text

abbrev pub not_empty : List ℕ → Bool
not_empty text = nat_le 1 (length text)

-- the tokens: the longest runs of bytes other than space and comma
abbrev pub tokens : List ℕ → List (List ℕ)
tokens text = filter not_empty (slice_split (λ b. b == 32 || b == 44) text)

-- behind the others, unless it is one of them
abbrev pub with_text : List (List ℕ) → List ℕ → List (List ℕ)
with_text ts t = if is_among t ts then ts else ts ++ t ∷ []

-- each once, in order of first place
abbrev pub distinct : List (List ℕ) → List (List ℕ)
distinct ts = fold with_text [] ts
