-- Numbers in a fixed count of bytes.
use Rattle.std.specs.Prelude.{ℕ, zero, suc, ◌+◌, ◌*◌, ◌/◌, ◌%◌, List, [], ◌∷◌, length, take, drop, reverse, nat_lt, if◌then◌else◌, Ok, Err}
use Rattle.tc_base.specs.declared.fields.NotWhole.TheVariants.{Part}
use Rattle.tc_base.specs.Reading.{Front}

-- the number that bytes spell, the least byte first
unfoldable pub le_number : List ℕ → ℕ
le_number [] = 0
le_number (b ∷ bytes) = b + 256 * le_number bytes

-- a number in that many bytes, the least first
unfoldable pub le_bytes : ℕ → ℕ → List ℕ
le_bytes zero n = []
le_bytes (suc width) n = n % 256 ∷ le_bytes width (n / 256)

-- the greatest byte first
abbrev pub be_number : List ℕ → ℕ
be_number bytes = le_number (reverse bytes)

abbrev pub be_bytes : ℕ → ℕ → List ℕ
be_bytes width n = reverse (le_bytes width n)

-- that many bytes at a place
abbrev pub field : ℕ → ℕ → List ℕ → List ℕ
field at width bytes = take width (drop at bytes)

-- a number of that many bytes at the front, the least first, and the bytes behind it
unfoldable pub le_front : ℕ → List ℕ → Front ℕ
le_front width bytes = if nat_lt (length bytes) width then Err Part else Ok (le_number (take width bytes), drop width bytes)
