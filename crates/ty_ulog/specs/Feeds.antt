-- What a feed is still to be given of an update log.
use Rattle.std.specs.Prelude.{◌≡◌, ◌≤◌, ◌<◌, ◌+◌, ◌-◌, ◌^◌, ℕ, List, [], ◌++◌, length, drop, min, Option, Some, None}
use Rattle.ty_ulog.specs.declared.feed.Feed.{Feed}
use Rattle.tc_space.specs.declared.space.Space.{Ghosts}
use Rattle.ty_ulog.specs.declared.log.Ulog.{Ulog}
use Rattle.ty_ulog.specs.declared.record.Record.{Record}
use Rattle.ty_ulog.specs.Holding.{Means, ReadsFew}
use Rattle.ty_ulog.specs.Log.{log_bytes, above, last_of}

-- from its place in the file on; before the log has a record above its timestamp it has no place
abbrev pub from_place : Option ℕ → ℕ → List Record → List ℕ
from_place None stamp rs = log_bytes (above stamp rs)
from_place (Some at) stamp rs = drop at (log_bytes rs)

abbrev pub left : Feed → List Record → List ℕ
left f rs = from_place f.place f.above rs

-- a place lies inside the file, and the log has a record above the timestamp
abbrev pub IsPlace : Option ℕ → ℕ → List Record → Type 0
IsPlace None stamp rs = Unit {0}
IsPlace (Some at) stamp rs = (at ≤ length (log_bytes rs)) × (stamp < last_of 0 rs)

abbrev pub Stands : Feed → List Record → Type 0
Stands f rs = IsPlace f.place f.above rs

-- how many bytes it may still be given at most
abbrev pub room : Option ℕ → ℕ
room None = 2 ^ 64
room (Some at) = 2 ^ 64 - at

-- a feed was given bytes, 4,096 or as many as are left; where it was given none, none is left
pub record Gives (f g : Feed) (rs : List Record) (bytes : List ℕ) : Type 0 where
  pub parts : left f rs ≡ bytes ++ left g rs
  pub many : length bytes ≡ min 4096 (length (left f rs))
  pub all : bytes ≡ [] → left g rs ≡ []
  pub stands : Stands f rs → Stands g rs

-- a place was found for it: what is left is the same from there on, and none is found only where none is left
pub record IsFound (f : Feed) (rs : List Record) (found : Option ℕ) : Type 0 where
  pub same : from_place found f.above rs ≡ left f rs
  pub none : found ≡ None → left f rs ≡ []
  pub stands : Stands f rs → IsPlace found f.above rs

-- where it has a place so many bytes are read at most; else, where the log is the file's, those that are read to find it too
abbrev pub CountsAt : {S : Type 0} → Ghosts S → Ulog → Option ℕ → S → S → ℕ → Type 0
CountsAt s log None old new most = ReadsFew s log old new (2101248 + most)
CountsAt s log (Some at) old new most = s.bytes_read new ≤ s.bytes_read old + most

abbrev pub Counts : {S : Type 0} → Ghosts S → Ulog → Feed → S → S → ℕ → Type 0
Counts s log f old new most = CountsAt s log f.place old new most

-- of whatever records the log has: it is found for them
abbrev pub FindsPlace : {S : Type 0} → Ghosts S → Ulog → S → Feed → Option ℕ → Type 0
FindsPlace s log space f found = (rs : List Record) → Means s log space rs → IsFound f rs found

-- and it was given these bytes of them
abbrev pub GivesNext : {S : Type 0} → Ghosts S → Ulog → S → Feed → Feed → List ℕ → Type 0
GivesNext s log space f g bytes = (rs : List Record) → Means s log space rs → Gives f g rs bytes
