-- What an update log in memory knows of its file.
use Rattle.std.specs.Prelude.{◌≡◌, ℕ, ◌+◌, ◌<◌, ◌≤◌, List, [], ◌∷◌, ◌++◌, length}
use Rattle.tc_space.specs.Frames.{In}
use Rattle.tc_space.specs.declared.space.Space.{Ghosts}
use Rattle.ty_ulog.specs.declared.index.Mark.{Mark}
use Rattle.ty_ulog.specs.declared.log.Ulog.{Ulog}
use Rattle.ty_ulog.specs.declared.record.Record.{Record}
use Rattle.ty_ulog.specs.Log.{log_bytes, last_of, IsLog}

abbrev pub but_last : List Record → List Record
but_last [] = []
but_last (r ∷ []) = []
but_last (r ∷ q ∷ rs) = r ∷ but_last (q ∷ rs)

-- each of them begins less than a MiB behind the first: all but the last take fewer bytes
abbrev pub AreNear : List Record → Type 0
AreNear rs = length (log_bytes (but_last rs)) < 1048576

-- a mark parts records, which begin at a place behind a timestamp: those in front of it are near, and take half a MiB or more
pub record Marks (m : Mark) (place held : ℕ) (rs : List Record) : Type 0 where
  pub front : List Record
  pub later : List Record
  pub parts : rs ≡ front ++ later
  pub near : AreNear front
  pub far : place + 524288 ≤ m.place
  pub place_is : m.place ≡ place + length (log_bytes front)
  pub last_is : m.last ≡ last_of held front

-- so does each mark in turn, and those behind the last are near
abbrev pub Spread : List Mark → ℕ → ℕ → List Record → Type 0
Spread [] place held rs = AreNear rs
Spread (m ∷ ms) place held rs = (p : Marks m place held rs) × Spread ms m.place m.last p.later

-- records that are written at once: all but the last take less than half a MiB
abbrev pub AreFew : List Record → Type 0
AreFew rs = length (log_bytes (but_last rs)) < 524288

-- records come at this place, behind a timestamp: they are marked where that is due
abbrev pub Marked : List Mark → List Mark → ℕ → ℕ → Type 0
Marked old new place last = (rs more : List Record) → place ≡ length (log_bytes rs) → last ≡ last_of 0 rs → AreFew more → Spread old 0 0 rs → Spread new 0 0 (rs ++ more)

-- the file is the log of these records
pub record Holds (u : Ulog) (file : List ℕ) (rs : List Record) : Type 0 where
  pub log : IsLog file rs
  pub last_is : u.last ≡ last_of 0 rs
  pub spread : Spread u.index.marks 0 0 rs

-- the number of its file
abbrev pub file_of : Ulog → ℕ
file_of u = 2

-- where files are told, file 2 is the log of these records
abbrev pub Means : {S : Type 0} → Ghosts S → Ulog → S → List Record → Type 0
Means s u space rs = In s file_of Holds u space rs

-- where the log is the file's, so many bytes were read at most
abbrev pub ReadsFew : {S : Type 0} → Ghosts S → Ulog → S → S → ℕ → Type 0
ReadsFew s u old new most = (rs : List Record) → Means s u old rs → s.bytes_read new ≤ s.bytes_read old + most
