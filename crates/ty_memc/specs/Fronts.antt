-- What is answered of the piece at the front of bytes, and what was seen of it.
use Rattle.std.specs.Prelude.{◌≡◌, ◌≤◌, ◌<◌, ℕ, Bool, true, false, List, ◌++◌, length, drop, Ok, Err}
use Rattle.tc_base.specs.declared.fields.NotWhole.TheVariants as not_whole
use Rattle.ty_wire.specs.declared.reading.Front.{Front}
use Rattle.ty_wire.specs.declared.reading.Front.TheVariants.{Whole, Part, Bad}
use Rattle.ty_look.specs.Seen.{IsSeen}
use Rattle.ty_wire.specs.Taking.{Takes}
use Rattle.ty_memc.specs.declared.text.Text.{Text}
use Rattle.ty_memc.specs.declared.text.Piece.{Piece}
use Rattle.ty_memc.specs.declared.pieces.SeenPiece.{SeenPiece}
use Rattle.ty_memc.specs.Taking.{IsTextSeen}
use Rattle.ty_memc.specs.Grammar.{SpellsText, begins_text, piece_at}

-- ---- text commands, by the grammar

-- no whole command stands at the front
abbrev pub HasNoText : List ℕ → Type 0
HasNoText bytes = (t : Text) (text rest : List ℕ) → SpellsText t text → bytes ≡ text ++ rest → ⊥

-- a whole one of so many bytes; or a part: none, and fewer bytes than the longest has; or none whatever comes behind
abbrev pub TakesText : List ℕ → Front → Type 0
TakesText bytes (Whole n) = (t : Text) × (text : List ℕ) × (rest : List ℕ) × SpellsText t text × (length text ≡ n) × (bytes ≡ text ++ rest)
TakesText bytes Part = HasNoText bytes × (length bytes < 16779266)
TakesText bytes Bad = (more : List ℕ) → HasNoText (bytes ++ more)

-- ---- pieces

-- as reading from left to right says
abbrev pub IsPieceRead : List ℕ → Front → Type 0
IsPieceRead bytes (Whole n) = (x : Piece) × (n ≤ length bytes) × (piece_at bytes ≡ Ok (x, drop n bytes))
IsPieceRead bytes Part = piece_at bytes ≡ Err not_whole.Part
IsPieceRead bytes Bad = piece_at bytes ≡ Err not_whole.Bad

abbrev pub TakesAs : Bool → List ℕ → Front → Type 0
TakesAs true bytes front = TakesText bytes front
TakesAs false bytes front = Takes bytes front

-- by the grammar that the first byte tells
abbrev pub TakesPiece : List ℕ → Front → Type 0
TakesPiece bytes front = TakesAs (begins_text bytes) bytes front

pub record IsPieceSeen (seen : SeenPiece) (bytes : List ℕ) : Type 0 where
  pub request : IsSeen seen.request bytes
  pub text : IsTextSeen seen.text bytes
