-- A record as it is written.
use Rattle.std.specs.Prelude.{ℕ, ◌+◌, ◌*◌, ◌-◌, ◌%◌, List, ◌∷◌, ◌++◌, length, replicate}
use Rattle.tc_base.specs.Endian.{le_bytes}
use Rattle.tc_base.specs.Vnum.{vnum}
use Rattle.hf_block.specs.Pieces.{Record, held, spell}

-- what n bytes lack up to the least multiple of the unit
abbrev pub padding : ℕ → ℕ → ℕ
padding unit n = (unit - n % unit) % unit

-- a record's head up to behind its chains
abbrev pub linked_front : ℕ → ℕ → ℕ → ℕ → List ℕ
linked_front wide hash left right = 0xC8 ∷ hash ∷ (le_bytes wide left ++ le_bytes wide right)

-- a record's head up to the sizes of key and value
unfoldable pub front_bytes : ℕ → ℕ → ℕ → ℕ → ℕ → List ℕ
front_bytes wide hash left right pad = 0xC8 ∷ (le_bytes 1 hash ++ (le_bytes wide left ++ (le_bytes wide right ++ le_bytes 2 pad)))

-- the bytes before padding
abbrev pub content : ℕ → List ℕ → List ℕ → ℕ
content wide key value = 4 + 2 * wide + length (vnum (length key)) + length (vnum (length value)) + length key + length value

-- its block is the least multiple of the unit, with zeros behind the value
abbrev pub written : ℕ → ℕ → ℕ → ℕ → List ℕ → List ℕ → ℕ → Record
written wide hash left right key value unit = record { wide = wide; hash = hash; left = left; right = right; key = key; value = value; pad = replicate (padding unit (content wide key value)) 0 }

unfoldable pub record_bytes : ℕ → ℕ → ℕ → ℕ → List ℕ → List ℕ → ℕ → List ℕ
record_bytes wide hash left right key value unit = spell (held (written wide hash left right key value unit))

-- the bytes of a block for a key and a value of these sizes
abbrev pub sized_len : ℕ → ℕ → ℕ → ℕ → ℕ
sized_len wide key value unit = let n = 4 + 2 * wide + length (vnum key) + length (vnum value) + key + value in n + padding unit n

abbrev pub block_len : ℕ → List ℕ → List ℕ → ℕ → ℕ
block_len wide key value unit = sized_len wide (length key) (length value) unit
