-- Bytes that show a file from a place on.
use Rattle.std.specs.Prelude.{◌≡◌, ℕ, ◌+◌, ◌<◌, ◌≤◌, List, length, get_or}
use Rattle.tc_undo.specs.Pieces.{laid, laid_one, reached}
use Rattle.tc_undo.specs.declared.piece.Piece.{Piece}

-- as far as the file reaches, these are its bytes from a place on
pub record Shows (into : List ℕ) (at : ℕ) (old : List ℕ) : Type 0 where
  pub each : (k : ℕ) → k < length into → at + k < length old → get_or into k 0 ≡ get_or old (at + k) 0

-- what showed a file shows it with a piece laid over it
pub record LaysOne (bytes : List ℕ) (p : Piece) (f at : ℕ) (into into' : List ℕ) : Type 0 where
  pub each : (old : List ℕ) → (p.file ≡ f → p.at ≤ length old) → Shows into at old → Shows into' at (laid_one bytes p f old)

-- and with all of them
pub record LaysAll (bytes : List ℕ) (ps : List Piece) (f at : ℕ) (into into' : List ℕ) : Type 0 where
  pub each : (old : List ℕ) → reached bytes ps f old → Shows into at old → Shows into' at (laid bytes ps f old)

-- so it does after those in front of some that are left
pub record LaysSome (bytes : List ℕ) (ps : List Piece) (f at : ℕ) (old : List ℕ) (into : List ℕ) (rest : List Piece) : Type 0 where
  pub mid : List ℕ
  pub shows : Shows into at mid
  pub reached_rest : reached bytes rest f mid
  pub same : laid bytes rest f mid ≡ laid bytes ps f old
