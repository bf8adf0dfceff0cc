-- Pieces in the order of their places, apart from each other.
use Rattle.std.specs.Prelude.{◌≡◌, ◌⊎◌, ℕ, ◌+◌, ◌-◌, ◌<◌, ◌≤◌, List, [], ◌∷◌, length, take, drop, get_or, All}
use Rattle.tc_undo.specs.declared.piece.Piece.{Piece}

-- a piece is in front of another, and their bytes are apart
pub record InFront (p q : Piece) : Type 0 where
  pub files : p.file ≤ q.file
  pub places : p.file ≡ q.file → p.at + p.size ≤ q.at
  pub beside : (p.from + p.size ≤ q.from) ⊎ (q.from + q.size ≤ p.from)

-- each is in front of all behind it
abbrev pub Ascend : List Piece → Type 0
Ascend [] = Unit {0}
Ascend (p ∷ ps) = All (InFront p) ps × Ascend ps

-- a piece ends at a place of a file, or in front of it
pub record EndsBefore (f at : ℕ) (p : Piece) : Type 0 where
  pub files : p.file ≤ f
  pub places : p.file ≡ f → p.at + p.size ≤ at

-- a piece ends behind a place of a file
pub record EndsBehind (f at : ℕ) (p : Piece) : Type 0 where
  pub files : f ≤ p.file
  pub places : p.file ≡ f → at < p.at + p.size

-- a piece begins at a place of a file, or behind it
pub record BeginsBehind (f at : ℕ) (p : Piece) : Type 0 where
  pub files : f ≤ p.file
  pub places : p.file ≡ f → at ≤ p.at

-- a piece has a place of a file
pub record Covers (f at : ℕ) (p : Piece) : Type 0 where
  pub file : p.file ≡ f
  pub begins : p.at ≤ at
  pub ends : at < p.at + p.size

-- so many of the pieces end before a place of a file, and the others behind it
pub record Parts (f at : ℕ) (ps : List Piece) (i : ℕ) : Type 0 where
  pub inside : i ≤ length ps
  pub front : All (EndsBefore f at) (take i ps)
  pub rest : All (EndsBehind f at) (drop i ps)

-- a piece ends below its file's bound
abbrev pub EndsBelow : (ℕ → ℕ) → Piece → Type 0
EndsBelow bound p = p.at + p.size ≤ bound p.file

-- a piece has nothing of a file from one place up to another
pub record Misses (f from to : ℕ) (p : Piece) : Type 0 where
  pub each : p.file ≡ f → (p.at + p.size ≤ from) ⊎ (to ≤ p.at)

-- what stands where there is no piece
abbrev pub blank : Piece
blank = record { file = 0; at = 0; from = 0; size = 0 }

-- a piece has bytes
pub record HasBytes (p : Piece) : Type 0 where
  pub some : 1 ≤ p.size

-- this is the piece at an index
pub record IsAt (ps : List Piece) (i : ℕ) (p : Piece) : Type 0 where
  pub inside : i < length ps
  pub is : p ≡ get_or ps i blank

-- the piece in front of an index, which ends at a place of a file and whose bytes are the last
pub record EndsHere (bytes : List ℕ) (ps : List Piece) (i f at : ℕ) (p : Piece) : Type 0 where
  pub front : 1 ≤ i
  pub is : IsAt ps (i - 1) p
  pub file : p.file ≡ f
  pub ends : p.at + p.size ≡ at
  pub last : p.from + p.size ≡ length bytes

-- the piece at an index, if there are so many, is such a one
abbrev pub NextIs : (Piece → Type 0) → List Piece → ℕ → Type 0
NextIs P ps i = i < length ps → P (get_or ps i blank)
