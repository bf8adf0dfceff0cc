-- The grammar of text commands, and that of what stands at the front of a connection's bytes.
use Rattle.std.specs.Prelude.{◌≡◌, ◌≤◌, ◌<◌, ◌==◌, ℕ, Bool, true, false, not, List, [], ◌∷◌, ◌++◌, length, Ok, if◌then◌else◌}
use Rattle.std.specs.List.{list_all}
use Rattle.tc_base.specs.Bytes.{IsBytes}
use Rattle.tc_base.specs.Reading.{Front, mapped}
use Rattle.ty_wire.specs.Reading.{request_at}
use Rattle.ty_wire.specs.Spelling.{spelling, Fits}
use Rattle.ty_memc.specs.declared.text.Text.{Text}
use Rattle.ty_memc.specs.declared.text.Text.TheVariants as said
use Rattle.ty_memc.specs.declared.text.Piece.{Piece}
use Rattle.ty_memc.specs.declared.text.Piece.TheVariants as piece
use Rattle.ty_memc.specs.Words.{words}
use Rattle.ty_memc.specs.Lines.{Line, stores, says, closes, line_of}
use Rattle.ty_memc.specs.Reading.{is_inside, without_return, text_at}

-- what a line says, with what stands behind it: a value that is ended as a line is, or nothing
abbrev pub Means : Line → Text → List ℕ → Type 0
Means (stores word key size quiet) t behind = (value : List ℕ) × (length value ≡ size) × (t ≡ said.Store word key value quiet) × (behind ≡ value ++ 13 ∷ 10 ∷ [])
Means (says text) t behind = (t ≡ text) × (behind ≡ [])
Means closes t behind = ⊥

-- a line of at most 2,048 bytes with its line feed, which is the first, and what it asks for behind it. A command has many spellings
pub record SpellsText (t : Text) (text : List ℕ) : Type 0 where
  pub line : List ℕ
  pub value : List ℕ
  pub parts : text ≡ line ++ 10 ∷ value
  pub inside : list_all is_inside line ≡ true
  pub short : length line ≤ 2047
  pub means : Means (line_of (words (without_return line))) t value

-- ---- pieces

-- a first byte other than that of a request
abbrev pub begins_text : List ℕ → Bool
begins_text [] = false
begins_text (b ∷ rest) = not (b == 0xC8)

-- a request has one spelling
abbrev pub Spells : Piece → List ℕ → Type 0
Spells (piece.Request r) bytes = Fits r × (bytes ≡ spelling r)
Spells (piece.Text t) bytes = (begins_text bytes ≡ true) × SpellsText t bytes

-- the piece at the front, read from left to right
unfoldable pub piece_at : List ℕ → Front Piece
piece_at bytes = if begins_text bytes then mapped piece.Text text_at bytes else mapped piece.Request request_at bytes

-- ---- what a grammar of pieces is, for the laws on connections

-- p reads what S spells: what it finds is spelled so and takes a byte at least, and is found so whatever comes behind; and what is spelled so is found
pub record IsGrammar {A : Type 0} (S : A → List ℕ → Type 0) (p : List ℕ → Front A) : Type 0 where
  pub found : (bytes : List ℕ) (x : A) (rest : List ℕ) → IsBytes bytes → p bytes ≡ Ok (x, rest) → (text : List ℕ) × S x text × (bytes ≡ text ++ rest)
  pub again : (x : A) (text rest : List ℕ) → S x text → p (text ++ rest) ≡ Ok (x, rest)
  pub more : (bytes behind : List ℕ) (x : A) (rest : List ℕ) → p bytes ≡ Ok (x, rest) → p (bytes ++ behind) ≡ Ok (x, rest ++ behind)
  pub less : (bytes : List ℕ) (x : A) (rest : List ℕ) → p bytes ≡ Ok (x, rest) → length rest < length bytes
