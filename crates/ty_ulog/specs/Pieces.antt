-- Records of a file that is read in pieces.
use Rattle.std.specs.Prelude.{◌≡◌, ◌⊎◌, ◌+◌, ◌-◌, ◌≤◌, ℕ, Bool, List, [], ◌∷◌, ◌++◌, length, min, take, drop, nat_eq, Option, Some, None, IfSome, Result, OnOk, if◌then◌else◌}
use Rattle.std.specs.List.{list_any}
use Rattle.tc_reach.specs.declared.errors.ReadErr.{ReadErr}
use Rattle.tc_space.specs.declared.space.Space.{Ghosts}
use Rattle.ty_ulog.specs.declared.heads.Piece.{Piece}
use Rattle.ty_ulog.specs.declared.ahead.Ahead.{Ahead}
use Rattle.ty_ulog.specs.declared.record.Record.{Record}
use Rattle.ty_ulog.specs.declared.reading.Head.{Head}
use Rattle.ty_ulog.specs.Records.{record_bytes, Fits}
use Rattle.ty_ulog.specs.Log.{IsUpdate}

-- the command of a request that bytes are, or 0
abbrev pub command_of : List ℕ → ℕ
command_of [] = 0
command_of (magic ∷ []) = 0
command_of (magic ∷ command ∷ rest) = command

-- whether a request of this command updates, where the command tells: of a misc its name does
abbrev pub told_by : ℕ → Option Bool
told_by command =
    if nat_eq command 0x90 then None
    else Some (list_any (nat_eq command) (0x10 ∷ 0x11 ∷ 0x12 ∷ 0x13 ∷ 0x18 ∷ 0x20 ∷ 0x60 ∷ 0x72 ∷ []))

-- no whole update stands at the front
abbrev pub HasNoUpdate : List ℕ → Type 0
HasNoUpdate bytes = (r : Record) (rest : List ℕ) → IsUpdate r → bytes ≡ record_bytes r ++ rest → ⊥

-- what a record's head says of it
abbrev pub head_of : Record → Head
head_of r = record { stamp = r.stamp; before = r.before; size = 25 + length r.request }

-- whatever record begins here has this head
abbrev pub Heads : List ℕ → Option Head → Type 0
Heads bytes found = (r : Record) (rest : List ℕ) → Fits r → bytes ≡ record_bytes r ++ rest → found ≡ Some (head_of r)

-- at this place an update with this head stands
pub record IsUpdateAt (file : List ℕ) (at : ℕ) (head : Head) : Type 0 where
  pub it : Record
  pub update : IsUpdate it
  pub parts : drop at file ≡ record_bytes it ++ drop (at + head.size) file
  pub head_is : head ≡ head_of it

-- what stands at a place: an update with this head, or none
abbrev pub IsNext : List ℕ → ℕ → Option Head → Type 0
IsNext file at None = HasNoUpdate (drop at file)
IsNext file at (Some head) = IsUpdateAt file at head

-- up to which place bytes are held
abbrev pub upto : Ahead → ℕ
upto a = a.at + length a.held.items

-- they are the file's from their place on, and the end is the file's
pub record IsAhead (a : Ahead) (file : List ℕ) : Type 0 where
  pub end_is : a.end ≡ length file
  pub shows : a.held.items ≡ take (length a.held.items) (drop a.at file)

-- its head is held, and it ends inside the file
abbrev pub HasRoom : Ahead → Head → Type 0
HasRoom a head = (25 ≤ length a.held.items) × (25 ≤ head.size) × (a.at + head.size ≤ a.end)

-- the record with this head was passed
abbrev pub Passes : Ahead → Ahead → Head → Type 0
Passes a b head = (25 ≤ head.size) × (b.at ≡ a.at + head.size)

-- they go on from the same place
pub record Goes {S : Type 0} (s : Ghosts S) (a b : Ahead) (space : S) : Type 0 where
  pub at_is : b.at ≡ a.at
  pub end_is : b.end ≡ a.end
  pub ahead : s.tells → IsAhead b (s.now space 2)

-- no more than the rest of the file was read and, where that ended well, each byte once
pub record Spends {S T : Type 0} (s : Ghosts S) (result : Result T ReadErr) (a b : Ahead) (old new : S) : Type 0 where
  pub most : s.bytes_read new + upto a ≤ s.bytes_read old + a.end
  pub once : OnOk result (s.bytes_read new + upto a ≤ s.bytes_read old + upto b)

-- no update of so many bytes stands at the front
abbrev pub HasNone : List ℕ → ℕ → Type 0
HasNone bytes size = (r : Record) (rest : List ℕ) → IsUpdate r → 25 + length r.request ≡ size → bytes ≡ record_bytes r ++ rest → ⊥

-- the bytes are one update with this head
pub record AreUpdate (bytes : List ℕ) (head : Head) : Type 0 where
  pub it : Record
  pub update : IsUpdate it
  pub is : bytes ≡ record_bytes it
  pub head_is : head ≡ head_of it

-- ---- heads of records

-- how many bytes a piece has
abbrev pub long_of : Piece → ℕ
long_of p = min 4096 (p.end - p.at)

-- they are the file's from their place on, and the end is the file's
pub record Shows (p : Piece) (file : List ℕ) : Type 0 where
  pub end_is : p.end ≡ length file
  pub shows : take (long_of p) p.bytes ≡ take (long_of p) (drop p.at file)

-- it begins where it did, or at this place
abbrev pub MovesOn : Piece → Piece → ℕ → Type 0
MovesOn p q at = ((q.at ≡ p.at) ⊎ (q.at ≡ at)) × (q.end ≡ p.end)

-- what is found at a place of a file with this end
pub record Finds (tells : Type 0) (file : List ℕ) (at end : ℕ) (found : Option Head) : Type 0 where
  pub inside : IfSome found (λ head. (25 ≤ head.size) × (at + head.size ≤ end))
  pub heads : tells → Heads (drop at file) found
