-- A put of a large value, and the bytes that it stands for together with those behind it.
use Rattle.std.specs.Prelude.{◌≡◌, ◌<◌, ◌≤◌, ℕ, List, [], ◌∷◌, ◌++◌, length, Option, Some, None, MatchOption}
use Rattle.std.specs.Int.{w32, to_be_bytes}
use Rattle.ty_wire.specs.declared.reading.Front.{Front}
use Rattle.ty_memc.specs.declared.pieces.SeenPiece.{SeenPiece}
use Rattle.ty_memc.specs.Fronts.{IsPieceRead, IsPieceSeen, TakesPiece}
use Rattle.ty_core.specs.declared.large.Large.{Large}

-- what stands in front of a value of so many bytes
abbrev pub put_head : List ℕ → ℕ → List ℕ
put_head key size = 0xC8 ∷ 0x10 ∷ (to_be_bytes w32 (length key) ++ (to_be_bytes w32 size ++ key))

-- these are the bytes of a put in front of a value of so many, both within their limits
pub record BeginsPut (head : List ℕ) (size : ℕ) : Type 0 where
  pub key : List ℕ
  pub head_is : head ≡ put_head key size
  pub key_fits : length key ≤ 1048576
  pub size_fits : size ≤ 16777216

-- no more than its value is gathered, and nothing stands behind it before the value is there
pub record Gathers (l : Large) (behind : List ℕ) : Type 0 where
  pub begins : BeginsPut l.head l.size
  pub within : length l.value ≤ l.size
  pub alone : length l.value < l.size → behind ≡ []

abbrev pub all_of : Option Large → List ℕ → List ℕ
all_of None behind = behind
all_of (Some l) behind = l.head ++ (l.value ++ behind)

abbrev pub MayGather : Option Large → List ℕ → Type 0
MayGather large behind = MatchOption large (Unit {0}) (λ l. Gathers l behind)

-- bytes came
pub record Adds (l m : Large) (behind now bytes : List ℕ) : Type 0 where
  pub gathers : Gathers m now
  pub grows : all_of (Some m) now ≡ all_of (Some l) behind ++ bytes

-- what stands at the front is known, and what was seen of it holds
pub record IsSighted (bytes : List ℕ) (front : Front) (seen : SeenPiece) : Type 0 where
  pub takes : TakesPiece bytes front
  pub reads : IsPieceRead bytes front
  pub sees : IsPieceSeen seen bytes
