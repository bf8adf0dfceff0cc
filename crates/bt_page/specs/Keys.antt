-- The keys that the records of pages have.
use Rattle.std.specs.Prelude.{ℕ, zero, suc, ◌+◌, ◌-◌, ◌*◌, ◌/◌, ◌%◌, ◌^◌, List, [], ◌∷◌, ◌++◌, nat_lt, min, if◌then◌else◌}
use Rattle.std.specs.List.{fold}

-- what is added to a node's id, so that it is none of a leaf's
abbrev pub node_offset : ℕ
node_offset = 2 ^ 48

-- 0 to 9, a to f
abbrev pub hex_digit : ℕ → ℕ
hex_digit d = if nat_lt d 10 then 48 + d else 87 + d

-- at most so many digits of a number, without leading zeros
unfoldable pub hex_in : ℕ → ℕ → List ℕ
hex_in zero n = []
hex_in (suc most) n = if nat_lt n 16 then hex_digit n ∷ [] else hex_in most (n / 16) ++ hex_digit (n % 16) ∷ []

-- a number below 2 ^ 64
abbrev pub hex : ℕ → List ℕ
hex n = hex_in 16 n

-- a leaf's id, or # and a node's
unfoldable pub key_of : ℕ → List ℕ
key_of id = if nat_lt id node_offset then hex id else 35 ∷ hex (id - node_offset)

-- the digit that a byte is, any where it is none
abbrev pub digit_value : ℕ → ℕ
digit_value b = min 15 (if nat_lt b 58 then b - 48 else b - 87)

-- the number of digits
abbrev pub hex_number : List ℕ → ℕ
hex_number digits = fold (λ n b. n * 16 + digit_value b) 0 digits
