-- The head of a hash, tree or table file.
use Rattle.std.specs.Prelude.{◌≡◌, ℕ, ◌+◌, ◌*◌, ◌%◌, ◌^◌, ◌≤◌, ◌⊎◌, ◌==◌, Bool, if◌then◌else◌, List, [], ◌∷◌, ◌++◌, replicate, slice_index}
use Rattle.tc_base.specs.Endian.{le_bytes, field}
use Rattle.hf_head.specs.declared.errors.HeadErr.{HeadErr}
use Rattle.hf_head.specs.declared.head.Head.{Head}
use Rattle.hf_head.specs.Layout.{magic, HasMagic, number_at, IsFirst}

-- the fields at their places
unfoldable pub head_in : List ℕ → Head
head_in bytes = record {
  kind = slice_index bytes 32;
  apow = slice_index bytes 34;
  fpow = slice_index bytes 35;
  options = slice_index bytes 36;
  buckets = number_at 40 8 bytes;
  records = number_at 48 8 bytes;
  size = number_at 56 8 bytes;
  first = number_at 64 8 bytes;
  opaque = field 128 128 bytes;
}

-- the bytes spell the head; bytes that no field names may be any
pub record Spells (h : Head) (bytes : List ℕ) : Type 0 where
  pub marked : HasMagic bytes
  pub fields : head_in bytes ≡ h

-- a hash, a tree or a table
abbrev pub IsKind : Head → Type 0
IsKind h = (h.kind ≡ 0) ⊎ (h.kind ≡ 1) ⊎ (h.kind ≡ 3)

abbrev pub HasPowers : Head → Type 0
HasPowers h = (4 ≤ h.apow) × (h.apow ≤ 16) × (h.fpow ≤ 20)

-- none, or the large form
abbrev pub HasKnownOptions : Head → Type 0
HasKnownOptions h = (h.options ≡ 0) ⊎ (h.options ≡ 1)

abbrev pub is_large : Head → Bool
is_large h = h.options == 1

-- the bytes of a bucket entry and of a chain
abbrev pub wide : Bool → ℕ
wide large = if large then 8 else 4

abbrev pub unit : Head → ℕ
unit h = 2 ^ h.apow

-- head, bucket array and pool section
abbrev pub sections : Head → ℕ
sections h = 256 + wide (is_large h) * h.buckets + (64 + 4 * 2 ^ h.fpow)

pub record HasNumbers (h : Head) : Type 0 where
  pub some_buckets : 1 ≤ h.buckets
  pub few_buckets : h.buckets ≤ 2 ^ 38
  pub first_aligned : h.first % unit h ≡ 0
  pub first_behind : sections h ≤ h.first
  pub size_aligned : h.size % unit h ≡ 0
  pub size_least : h.first ≤ h.size
  pub size_most : h.size ≤ 2 ^ 40

pub record IsValid (h : Head) : Type 0 where
  pub is_kind : IsKind h
  pub powers : HasPowers h
  pub known_options : HasKnownOptions h
  pub numbers : HasNumbers h

-- the first refusal that is so
abbrev pub IsRefused : HeadErr → List ℕ → Type 0
IsRefused e bytes = IsFirst (HasMagic bytes) (IsKind (head_in bytes)) (HasPowers (head_in bytes)) (HasKnownOptions (head_in bytes)) (HasNumbers (head_in bytes)) e

-- the bytes written: zeros where no field is named
unfoldable pub spelled : Head → List ℕ
spelled h =
    magic ++ replicate 19 0
    ++ (h.kind ∷ 0 ∷ h.apow ∷ h.fpow ∷ h.options ∷ [])
    ++ replicate 3 0
    ++ le_bytes 8 h.buckets ++ le_bytes 8 h.records ++ le_bytes 8 h.size ++ le_bytes 8 h.first
    ++ replicate 56 0
    ++ h.opaque
