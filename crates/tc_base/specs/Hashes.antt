-- The two hashes of a key.
use Rattle.std.specs.Prelude.{ℕ, ◌+◌, ◌*◌, ◌%◌, ◌^◌, List, [], ◌∷◌, bit_xor}
use Rattle.std.specs.List.{fold}

-- from the front: times 37, then the byte is added, modulo 2 ^ 64
abbrev pub front_step : ℕ → ℕ → ℕ
front_step hash b = (hash * 37 + b) % 2 ^ 64

unfoldable pub front_hash : List ℕ → ℕ
front_hash key = fold front_step 19780211 key

-- the bucket of a key
abbrev pub bucket : List ℕ → ℕ → ℕ
bucket key buckets = front_hash key % buckets

-- from the back: times 31 modulo 2 ^ 32, then the byte is flipped in
unfoldable pub back_hash : List ℕ → ℕ
back_hash [] = 751
back_hash (b ∷ key) = bit_xor (back_hash key * 31 % 2 ^ 32) b

-- the second hash of a key: the low 8 bits
abbrev pub second : List ℕ → ℕ
second key = back_hash key % 256
