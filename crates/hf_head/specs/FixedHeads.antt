-- The head of a fixed-length file.
use Rattle.std.specs.Prelude.{◌≡◌, ℕ, ◌+◌, ◌-◌, ◌*◌, ◌/◌, ◌^◌, ◌≤◌, ◌⊎◌, nat_le, if◌then◌else◌, List, [], ◌∷◌, ◌++◌, replicate, slice_index}
use Rattle.tc_base.specs.Endian.{le_bytes}
use Rattle.hf_head.specs.declared.errors.HeadErr.{HeadErr}
use Rattle.hf_head.specs.declared.fixed.FixedHead.{FixedHead}
use Rattle.hf_head.specs.Layout.{magic, HasMagic, number_at, IsFirst}

-- the fields at their places
unfoldable pub fixed_in : List ℕ → FixedHead
fixed_in bytes = record {
  records = number_at 48 8 bytes;
  size = number_at 56 8 bytes;
  width = number_at 64 4 bytes;
  limit = number_at 72 8 bytes;
  least = number_at 80 8 bytes;
  greatest = number_at 88 8 bytes;
}

-- the type is that of a fixed-length file
abbrev pub IsFixed : List ℕ → Type 0
IsFixed bytes = slice_index bytes 32 ≡ 2

abbrev pub HasNoOption : List ℕ → Type 0
HasNoOption bytes = slice_index bytes 36 ≡ 0

-- the bytes spell the head; bytes that no field names may be any
pub record SpellsFixed (h : FixedHead) (bytes : List ℕ) : Type 0 where
  pub marked : HasMagic bytes
  pub is_fixed : IsFixed bytes
  pub no_option : HasNoOption bytes
  pub fields : fixed_in bytes ≡ h

-- the bytes of a cell of that width: its size field and the width
abbrev pub cell : ℕ → ℕ
cell width = width + (if nat_le width 255 then 1 else (if nat_le width 65535 then 2 else 4))

-- the greatest id allowed
abbrev pub max_id : FixedHead → ℕ
max_id h = (h.limit - 256) / cell h.width

pub record HasFixedNumbers (h : FixedHead) : Type 0 where
  pub width_least : 1 ≤ h.width
  pub width_most : h.width ≤ 1048576
  pub limit_least : 512 ≤ h.limit
  pub limit_most : h.limit ≤ 2 ^ 40
  pub ids : ((h.least ≡ 0) × (h.greatest ≡ 0)) ⊎ ((1 ≤ h.least) × (h.least ≤ h.greatest))
  pub greatest_most : h.greatest ≤ max_id h
  pub size_is : h.size ≡ 256 + cell h.width * h.greatest

-- the first refusal that is so; none speaks of a power
abbrev pub IsFixedRefused : HeadErr → List ℕ → Type 0
IsFixedRefused e bytes = IsFirst (HasMagic bytes) (IsFixed bytes) (Unit {0}) (HasNoOption bytes) (HasFixedNumbers (fixed_in bytes)) e

-- the bytes written: zeros where no field is named
unfoldable pub fixed_spelled : FixedHead → List ℕ
fixed_spelled h =
    magic ++ replicate 19 0 ++ (2 ∷ []) ++ replicate 15 0
    ++ le_bytes 8 h.records ++ le_bytes 8 h.size ++ le_bytes 4 h.width ++ replicate 4 0
    ++ le_bytes 8 h.limit ++ le_bytes 8 h.least ++ le_bytes 8 h.greatest
    ++ replicate 160 0
