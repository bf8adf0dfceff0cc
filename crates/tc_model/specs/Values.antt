-- The rules of values, whatever database holds them.
use Rattle.std.specs.Prelude.{ℕ, ◌+◌, ◌-◌, ◌%◌, ◌^◌, ◌==◌, List, length, drop, Option, Some, None, option_map, nat_le, if◌then◌else◌}
use Rattle.tc_base.specs.Endian.{le_number, le_bytes}

-- a new value of more than 16,777,216 bytes is refused
abbrev pub allowed : List ℕ → Option (List ℕ)
allowed value = if nat_le (length value) 16777216 then Some value else None

-- the last n of the bytes
abbrev pub last : ℕ → List ℕ → List ℕ
last n xs = drop (length xs - n) xs

-- the number that a value of four bytes spells, the least first; a key that isn't held counts as 0
abbrev pub number_of : Option (List ℕ) → Option ℕ
number_of None = Some 0
number_of (Some value) = if length value == 4 then Some (le_number value) else None

-- sums wrap at 2 ^ 32
abbrev pub sum_of : Option (List ℕ) → ℕ → Option ℕ
sum_of value number = option_map (λ n. (n + number) % 2 ^ 32) (number_of value)

abbrev pub spelled : ℕ → List ℕ
spelled n = le_bytes 4 n
