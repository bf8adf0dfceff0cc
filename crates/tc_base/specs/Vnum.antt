-- Varying numbers: base 128, the least group first. Each group but the last is stored as its complement in 8 bits, so that its
-- top bit is set; the last is stored as it is.
use Rattle.std.specs.Prelude.{◌≡◌, ℕ, zero, suc, ◌+◌, ◌-◌, ◌*◌, ◌/◌, ◌%◌, ◌<◌, ◌≤◌, ◌⊎◌, List, [], ◌∷◌, length, nat_lt, nat_le, if◌then◌else◌, slice_index, drop, Result, Ok, Err}
use Rattle.std.specs.List.{prefix_len}
use Rattle.tc_base.specs.declared.number.NumErr.{NumErr}
use Rattle.tc_base.specs.declared.number.NumErr.TheVariants.{Short, Second, Wide}
use Rattle.tc_base.specs.declared.fields.NotWhole.TheVariants.{Part, Bad}
use Rattle.tc_base.specs.Reading.{Front, both}

-- a number in at most that many groups
unfoldable pub groups : ℕ → ℕ → List ℕ
groups zero n = []
groups (suc most) n = if nat_lt n 128 then n ∷ [] else (255 - n % 128) ∷ groups most (n / 128)

-- the spelling of a number below 2 ^ 64
unfoldable pub vnum : ℕ → List ℕ
vnum n = groups 10 n

-- how many bytes at the front have their top bit
unfoldable pub tops : List ℕ → ℕ
tops bytes = prefix_len (λ b. nat_le 128 b) bytes

-- fewer than ten bytes, and each has its top bit
abbrev pub IsShort : List ℕ → Type 0
IsShort bytes = (length bytes < 10) × (tops bytes ≡ length bytes)

-- a whole spelling of two to ten bytes that ends in group 0
abbrev pub IsSecond : List ℕ → Type 0
IsSecond bytes = (0 < tops bytes) × (tops bytes < 10) × (tops bytes < length bytes) × (slice_index bytes (tops bytes) ≡ 0)

-- ten bytes with their top bit, or a tenth that ends them with a group above 1
abbrev pub IsWide : List ℕ → Type 0
IsWide bytes = (10 ≤ tops bytes) ⊎ ((tops bytes ≡ 9) × (1 < slice_index bytes 9))

-- the number whose groups these are, up to the first byte without its top bit
unfoldable pub value_of : List ℕ → ℕ
value_of [] = 0
value_of (b ∷ rest) = if nat_lt b 128 then b else (255 - b) + 128 * value_of rest

-- what is read where byte b ends a spelling behind that many bytes, and value is the number
abbrev pub ended : ℕ → ℕ → ℕ → Result (ℕ × ℕ) NumErr
ended behind b value =
    if nat_lt 0 behind
    then (if nat_lt 0 b then (if nat_lt behind 9 then Ok (value, behind + 1) else (if nat_lt 1 b then Err Wide else Ok (value, behind + 1))) else Err Second)
    else Ok (value, behind + 1)

-- what is read at the front of bytes
unfoldable pub vnum_at : List ℕ → Result (ℕ × ℕ) NumErr
vnum_at bytes =
    if nat_lt (tops bytes) 10
    then (if nat_lt (tops bytes) (length bytes) then ended (tops bytes) (slice_index bytes (tops bytes)) (value_of bytes) else Err Short)
    else Err Wide

-- the same as a reading: the number and the bytes behind it
abbrev pub fronted : List ℕ → Result (ℕ × ℕ) NumErr → Front ℕ
fronted bytes (Ok x) = Ok (x.0, drop x.1 bytes)
fronted bytes (Err Short) = Err Part
fronted bytes (Err Second) = Err Bad
fronted bytes (Err Wide) = Err Bad

unfoldable pub vnum_front : List ℕ → Front ℕ
vnum_front bytes = fronted bytes (vnum_at bytes)

-- two of them, one behind the other
unfoldable pub two_front : List ℕ → Front (ℕ × ℕ)
two_front bytes = both vnum_front vnum_front bytes

-- three
unfoldable pub three_front : List ℕ → Front (ℕ × (ℕ × ℕ))
three_front bytes = both vnum_front (both vnum_front vnum_front) bytes
