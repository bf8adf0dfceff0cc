-- Several writes to data files, made as one: what they make of files, and what is asked of them.
use Rattle.std.specs.Prelude.{◌≡◌, ℕ, ◌+◌, ◌≤◌, List, [], ◌∷◌, length, take, drop, true, if◌then◌else◌, ◌==◌}
use Rattle.tc_base.specs.Files.{Files, wrote}
use Rattle.ud_log.specs.Undo.{is_data}
use Rattle.tc_undo.specs.Room.{needs}
use Rattle.tc_undo.specs.declared.piece.Piece.{Piece}

-- a piece's bytes
abbrev pub part : List ℕ → Piece → List ℕ
part bytes p = take p.size (drop p.from bytes)

-- what a piece makes of a file's bytes
unfoldable pub laid_one : List ℕ → Piece → ℕ → List ℕ → List ℕ
laid_one bytes p f old = if p.file == f then wrote p.at (part bytes p) old else old

-- what pieces, one after the other, make of a file's bytes
abbrev pub laid : List ℕ → List Piece → ℕ → List ℕ → List ℕ
laid bytes [] f old = old
laid bytes (p ∷ ps) f old = laid bytes ps f (laid_one bytes p f old)

-- each piece begins inside its file, or at its end, as the pieces before it leave it
abbrev pub reached : List ℕ → List Piece → ℕ → List ℕ → Type 0
reached bytes [] f old = Unit {0}
reached bytes (p ∷ ps) f old = (p.file ≡ f → p.at ≤ length old) × reached bytes ps f (laid_one bytes p f old)

pub record Reached (bytes : List ℕ) (ps : List Piece) (files : Files) : Type 0 where
  pub each : (f : ℕ) → is_data f ≡ true → reached bytes ps f (files f)

-- a piece's bytes are among these
abbrev pub LiesIn : List ℕ → Piece → Type 0
LiesIn bytes p = p.from + p.size ≤ length bytes

-- a piece is of a data file, inside that file's limit, and its bytes are among these
pub record Fits (limit : ℕ → ℕ) (bytes : List ℕ) (p : Piece) : Type 0 where
  pub data_file : is_data p.file ≡ true
  pub below : p.at + p.size ≤ limit p.file
  pub inside : LiesIn bytes p

-- what the log needs at most for the old bytes of all of them
abbrev pub needs_all : List Piece → ℕ
needs_all [] = 0
needs_all (p ∷ ps) = needs p.size + needs_all ps
