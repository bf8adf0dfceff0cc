-- The fixed-point number at the front of a text.
use Rattle.std.specs.Prelude.{ℕ, ℤ, pos, ◌+◌, ◌-◌, ◌*◌, ◌^◌, Bool, ◌&&◌, ◌==◌, min, List, [], ◌∷◌, ◌++◌, take, drop, replicate, nat_le, if◌then◌else◌}
use Rattle.std.proofs.Math.IntN.{neg_ℤ}
use Rattle.std.specs.List.{prefix_len, fold}

abbrev pub is_digit : ℕ → Bool
is_digit b = nat_le 48 b && nat_le b 57

-- the digits at the front of bytes, and what stands behind them
unfoldable pub digits : List ℕ → List ℕ
digits bytes = take (prefix_len is_digit bytes) bytes

unfoldable pub behind_digits : List ℕ → List ℕ
behind_digits bytes = drop (prefix_len is_digit bytes) bytes

-- the number that digits spell
unfoldable pub decimal : List ℕ → ℕ
decimal ds = fold (λ n d. n * 10 + (d - 48)) 0 ds

-- the digits behind a point, if there is one
abbrev pub fraction : List ℕ → List ℕ
fraction [] = []
fraction (b ∷ rest) = if b == 46 then digits rest else []

-- the first nine, filled with zeros behind
unfoldable pub nine : List ℕ → List ℕ
nine ds = take 9 (ds ++ replicate 9 48)

-- in units of 10 ^ -9, with at most 10 ^ 18 - 1 before the point
abbrev pub magnitude : List ℕ → ℕ
magnitude bytes = min (10 ^ 18 - 1) (decimal (digits bytes)) * 10 ^ 9 + decimal (nine (fraction (behind_digits bytes)))

-- one sign, if there is one, and the number behind it
abbrev pub signed : List ℕ → ℤ
signed [] = pos (magnitude [])
signed (b ∷ rest) = if b == 45 then neg_ℤ (pos (magnitude rest)) else (if b == 43 then pos (magnitude rest) else pos (magnitude (b ∷ rest)))

-- bytes up to 32 at the front are passed over
unfoldable pub text_number : List ℕ → ℤ
text_number text = signed (drop (prefix_len (λ b. nat_le b 32) text) text)
