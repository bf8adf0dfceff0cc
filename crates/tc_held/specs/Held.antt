-- What is held over a space, and when it may be brought there.
use Rattle.std.specs.Prelude.{◌≡◌, ◌≢◌, ℕ, ◌+◌, ◌*◌, ◌^◌, ◌<◌, ◌≤◌, List, [], length, false, All, vec_capacity}
use Rattle.tc_base.specs.Files.{Files, wrote}
use Rattle.tc_space.specs.declared.space.Space.{Ghosts}
use Rattle.tc_undo.specs.Guards.{IsSmall}
use Rattle.tc_undo.specs.Pieces.{LiesIn, laid, needs_all, reached}
use Rattle.tc_undo.specs.Room.{needs}
use Rattle.tc_held.specs.Pieces.{Ascend, EndsBelow, HasBytes}
use Rattle.tc_held.specs.Shown.{LaysAll}
use Rattle.tc_undo.specs.declared.piece.Piece.{Piece}
use Rattle.tc_held.specs.declared.held.Held.{Held}

-- the files with pieces laid over them
abbrev pub over_all : List ℕ → List Piece → Files → Files
over_all bytes ps under = λ f. laid bytes ps f (under f)

-- the files with what is held over them
abbrev pub over : Held → Files → Files
over held under = over_all held.bytes.items held.pieces.items under

-- its memory is there: for so many pieces and so many bytes, and no more is used
abbrev pub HasRoomFor : ℕ → ℕ → Held → Type 0
HasRoomFor pieces bytes h = (h.slots ≡ pieces) × (h.room ≡ bytes) × (vec_capacity h.pieces ≡ pieces) × (vec_capacity h.bytes ≡ bytes)

-- each piece begins inside its file or at its end, as those in front of it leave it
abbrev pub AreReached : List ℕ → List Piece → Files → Type 0
AreReached bytes ps under = (f : ℕ) → reached bytes ps f (under f)

-- pieces of data files in order, apart, each with bytes of its own, for which the log never needs more than it keeps free
pub record AreTidy (bytes : List ℕ) (ps : List Piece) : Type 0 where
  pub small : All IsSmall ps
  pub lie : All (LiesIn bytes) ps
  pub full : All HasBytes ps
  pub ascend : Ascend ps
  pub few : length bytes ≤ 2 ^ 23
  pub spent : needs_all ps ≤ 21 * length bytes

abbrev pub IsTidy : Held → Type 0
IsTidy held = AreTidy held.bytes.items held.pieces.items

-- one file has bytes at a place, and the others stay
pub record Written (file at : ℕ) (bytes : List ℕ) (old new : Files) : Type 0 where
  pub here : new file ≡ wrote at bytes (old file)
  pub others : (g : ℕ) → g ≢ file → new g ≡ old g

-- what was held has bytes at a place of a file written over it, inside the file as it reads or at its end
pub record TakesAll (file at : ℕ) (put bytes : List ℕ) (ps : List Piece) (bytes' : List ℕ) (ps' : List Piece) : Type 0 where
  pub tidy : AreTidy bytes' ps'
  pub below : (bound : ℕ → ℕ) → All (EndsBelow bound) ps → at + length put ≤ bound file → All (EndsBelow bound) ps'
  pub written : (under : Files) → AreReached bytes ps under → at ≤ length (over_all bytes ps under file) → Written file at put (over_all bytes ps under) (over_all bytes' ps' under)
  pub reaches : (under : Files) → AreReached bytes ps under → at ≤ length (over_all bytes ps under file) → AreReached bytes' ps' under

abbrev pub Takes : ℕ → ℕ → List ℕ → Held → Held → Type 0
Takes file at put old new = TakesAll file at put old.bytes.items old.pieces.items new.bytes.items new.pieces.items

-- bytes that showed a file from a place on show it with what is held
abbrev pub Lays : Held → ℕ → ℕ → List ℕ → List ℕ → Type 0
Lays held f at into into' = LaysAll held.bytes.items held.pieces.items f at into into'

-- what is held over a space may be brought there: it is within the limits, leaves no gap behind a file, and the log has room
pub record IsHeld {S : Type 0} (s : Ghosts S) (logged : S → ℕ) (below : S) (held : Held) : Type 0 where
  pub tidy : IsTidy held
  pub limits : All (EndsBelow (s.limit below)) held.pieces.items
  pub reaches : s.tells → AreReached held.bytes.items held.pieces.items (s.now below)
  pub room : logged below + needs_all held.pieces.items ≤ 2 ^ 62

-- nothing is held over a space in which nothing was written
pub record IsBare {S : Type 0} (s : Ghosts S) (below : S) (held : Held) : Type 0 where
  pub untouched : s.touched below ≡ false
  pub none : held.pieces.items ≡ []

-- what was held was brought to the space: nothing is held any more, and the files stay
pub record Brings {S : Type 0} (s : Ghosts S) (below below' : S) (held held' : Held) : Type 0 where
  pub none : held'.pieces.items ≡ []
  pub same : s.tells → (f : ℕ) → over held' (s.now below') f ≡ over held (s.now below) f

-- a cut found no room in the log for the old bytes: nothing is held any more, and the files stay
pub record FindsFull {S : Type 0} (s : Ghosts S) (logged : S → ℕ) (size : ℕ) (below below' : S) (held held' : Held) : Type 0 where
  pub by : s.tells → 2 ^ 62 < logged below + 2 ^ 29 + needs size
  pub log : s.log_full below'
  pub none : held'.pieces.items ≡ []
  pub same : s.tells → (f : ℕ) → over held' (s.now below') f ≡ over held (s.now below) f
