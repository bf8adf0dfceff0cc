-- Pieces of a file that adjoin, as one write.
use Rattle.std.specs.Prelude.{◌≡◌, ℕ, ◌+◌, ◌≤◌, List, length, All}
use Rattle.tc_base.specs.Files.{Files, wrote}
use Rattle.ud_log.specs.Entries.{Entry}
use Rattle.tc_undo.specs.Guards.{Guards, IsGuarded}
use Rattle.tc_undo.specs.Pieces.{laid}
use Rattle.tc_undo.specs.declared.piece.Piece.{Piece}

-- what the code has where there is no piece
abbrev pub blank : Piece
blank = record { file = 0; at = 0; from = 0; size = 0 }

-- a piece ends where its file may end, or in front of that
abbrev pub EndsBy : (ℕ → ℕ) → Piece → Type 0
EndsBy top p = p.at + p.size ≤ top p.file

-- pieces make of files what these bytes at a place of one file do, and are guarded where they are
pub record IsRun (bytes : List ℕ) (ps : List Piece) (file at : ℕ) (text : List ℕ) : Type 0 where
  pub here : (old : List ℕ) → at ≤ length old → laid bytes ps file old ≡ wrote at text old
  pub others : (f : ℕ) → (file ≡ f → ⊥) → (old : List ℕ) → laid bytes ps f old ≡ old
  pub guards : (kept : Files) (es : List Entry) → All (IsGuarded kept es) ps → Guards kept es file at (at + length text)
  pub ends : (top : ℕ → ℕ) → at ≤ top file → All (EndsBy top) ps → at + length text ≤ top file

abbrev pub IsRunAt : List ℕ → List Piece → Piece → List ℕ → Type 0
IsRunAt bytes ps p text = IsRun bytes ps p.file p.at text
