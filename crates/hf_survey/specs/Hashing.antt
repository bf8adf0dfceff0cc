-- The hash from the back of a key that is read piece by piece.
use Rattle.std.specs.Prelude.{ℕ, ◌*◌, ◌%◌, ◌^◌, List, [], ◌∷◌, bit_xor}

-- in front of bytes, where it is this behind them
unfoldable pub back_from : ℕ → List ℕ → ℕ
back_from hash [] = hash
back_from hash (b ∷ bytes) = bit_xor (back_from hash bytes * 31 % 2 ^ 32) b
