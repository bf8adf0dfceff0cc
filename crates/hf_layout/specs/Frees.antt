-- Free blocks by place and by size.
use Rattle.std.specs.Prelude.{◌≡◌, ℕ, ◌+◌, ◌<◌, ◌≤◌, ◌==◌, ◌⊎◌, Option, Some, None, if◌then◌else◌}

-- the size of the free block at each place
abbrev pub Frees : Type 0
Frees = ℕ → Option ℕ

-- a free block of that size there
abbrev pub IsThere : Frees → ℕ → ℕ → Type 0
IsThere frees place size = frees place ≡ Some size

-- the least free block that is large enough, the one at the lowest place among equals
pub record IsLeast (frees : Frees) (size place found : ℕ) : Type 0 where
  pub there : IsThere frees place found
  pub enough : size ≤ found
  pub least : (q t : ℕ) → IsThere frees q t → size ≤ t → found ≤ t
  pub lowest : (q : ℕ) → IsThere frees q found → place ≤ q

-- no free block is large enough
abbrev pub AreSmall : Frees → ℕ → Type 0
AreSmall frees size = (q t : ℕ) → IsThere frees q t → t < size

-- the same of those that begin below a place; others are passed over
pub record IsBest (frees : Frees) (most size place found : ℕ) : Type 0 where
  pub there : IsThere frees place found
  pub below : place < most
  pub enough : size ≤ found
  pub least : (q t : ℕ) → IsThere frees q t → q < most → size ≤ t → found ≤ t
  pub lowest : (q : ℕ) → IsThere frees q found → place ≤ q

abbrev pub HasNone : Frees → ℕ → ℕ → Type 0
HasNone frees most size = (q t : ℕ) → IsThere frees q t → q < most → t < size

-- no two free blocks meet
abbrev pub AreApart : Frees → Type 0
AreApart frees = (p s q t : ℕ) → IsThere frees p s → IsThere frees q t → p < q → p + s ≤ q

-- a block meets none of them
abbrev pub MeetsNone : Frees → ℕ → ℕ → Type 0
MeetsNone frees place size = (q t : ℕ) → IsThere frees q t → (q + t ≤ place) ⊎ (place + size ≤ q)

-- with a block more, or one less
abbrev pub with_block : Frees → ℕ → ℕ → Frees
with_block frees place size = λ q. if q == place then Some size else frees q

abbrev pub without : Frees → ℕ → Frees
without frees place = λ q. if q == place then None else frees q

-- each free block lies inside the bytes
abbrev pub LieInside : Frees → ℕ → Type 0
LieInside frees long = (q t : ℕ) → IsThere frees q t → q + t ≤ long

-- none at all
abbrev pub none : Frees
none q = None
