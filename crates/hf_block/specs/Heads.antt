-- The heads of blocks. Numbers have the least byte first.
use Rattle.std.specs.Prelude.{◌≡◌, ℕ, ◌+◌, ◌*◌, ◌^◌, ◌<◌, List, ◌∷◌, ◌++◌, length}
use Rattle.tc_base.specs.Endian.{le_bytes}
use Rattle.tc_base.specs.Vnum.{vnum}
use Rattle.hf_block.specs.declared.block.Block.{Block}
use Rattle.hf_block.specs.declared.block.Block.TheVariants.{Rec, Free}

-- a record's, with chains of that many bytes: second hash, left and right place, and the sizes of padding, key and value
unfoldable pub rec_head : ℕ → ℕ → ℕ → ℕ → ℕ → ℕ → ℕ → List ℕ
rec_head wide hash left right pad key value = 0xC8 ∷ (le_bytes 1 hash ++ (le_bytes wide left ++ (le_bytes wide right ++ (le_bytes 2 pad ++ (vnum key ++ vnum value)))))

unfoldable pub free_head : ℕ → List ℕ
free_head size = 0xB0 ∷ le_bytes 4 size

abbrev pub head_bytes : ℕ → Block → List ℕ
head_bytes wide (Rec hash left right pad key value head) = rec_head wide hash left right pad key value
head_bytes wide (Free size) = free_head size

-- each number fits its field, head counts the bytes before the key, and a free block isn't empty
abbrev pub Fits : ℕ → Block → Type 0
Fits wide (Rec hash left right pad key value head) = (hash < 256) × (left < 256 ^ wide) × (right < 256 ^ wide) × (pad < 2 ^ 16) × (key < 2 ^ 64) × (value < 2 ^ 64) × (head ≡ 4 + 2 * wide + length (vnum key) + length (vnum value))
Fits wide (Free size) = (0 < size) × (size < 2 ^ 32)

-- a front
abbrev pub IsPrefix : List ℕ → List ℕ → Type 0
IsPrefix xs ys = (rest : List ℕ) × (ys ≡ xs ++ rest)

-- a front that isn't the whole
abbrev pub IsPart : List ℕ → List ℕ → Type 0
IsPart xs ys = (rest : List ℕ) × (0 < length rest) × (ys ≡ xs ++ rest)

-- the bytes begin with the head of a block
abbrev pub BeginsWith : ℕ → Block → List ℕ → Type 0
BeginsWith wide b bytes = Fits wide b × IsPrefix (head_bytes wide b) bytes

-- they are less than the head of some block
abbrev pub IsCutShort : ℕ → List ℕ → Type 0
IsCutShort wide bytes = (b : Block) × Fits wide b × IsPart bytes (head_bytes wide b)

-- neither: no block's head begins so
abbrev pub HasNoHead : ℕ → List ℕ → Type 0
HasNoHead wide bytes = (b : Block) → Fits wide b → (IsPrefix (head_bytes wide b) bytes → ⊥) × (IsPart bytes (head_bytes wide b) → ⊥)
