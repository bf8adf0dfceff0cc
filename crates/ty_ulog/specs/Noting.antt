-- The records of requests that updated.
use Rattle.std.specs.Prelude.{◌≡◌, ◌⊎◌, ◌≤◌, ◌<◌, ◌+◌, ◌-◌, ◌^◌, ℕ, suc, max, List, [], ◌∷◌, ◌++◌, length, drop, Option, Result, All, OnOk, IsErrOf}
use Rattle.tc_io.specs.Told.{Adds}
use Rattle.tc_space.specs.declared.errors.RecErr.{RecErr}
use Rattle.tc_space.specs.declared.errors.RecErr.TheVariants.{Full}
use Rattle.tc_space.specs.declared.space.Space.{Ghosts}
use Rattle.tc_space.specs.Effects.{LacksRoom, Reached}
use Rattle.ty_ulog.specs.declared.log.Batch.{Batch}
use Rattle.ty_ulog.specs.declared.log.Ulog.{Ulog}
use Rattle.ty_ulog.specs.declared.record.Record.{Record}
use Rattle.ty_ulog.specs.Records.{record_bytes}
use Rattle.ty_ulog.specs.Log.{log_bytes, last_of, AreUpdates, Follow, IsUpdate}
use Rattle.ty_ulog.specs.Holding.{AreFew, Holds, Means, Spread}
use Rattle.tc_space.specs.Frames.{OnlyWrites, Others, Writes}
use Rattle.tc_space.specs.Stores.{Only}

-- the clock's next answer
abbrev pub tick : List ℕ → ℕ
tick [] = 0
tick (t ∷ ts) = t

-- the record of a request that updated: later than the one before, and no earlier than the clock says
abbrev pub record_for : ℕ → ℕ → ℕ → List ℕ → Record
record_for own before now bytes = record { stamp = max (suc before) now; before = before; server = own; master = own; request = bytes }

-- one for each, in order, with an answer of the clock each
abbrev pub records_of : ℕ → ℕ → List ℕ → List (List ℕ) → List Record
records_of own before ticks [] = []
records_of own before ticks (bytes ∷ more) = record_for own before (tick ticks) bytes ∷ records_of own (max (suc before) (tick ticks)) (drop 1 ticks) more

-- these come behind those that are held
abbrev pub adding : List Record → List Record → List Record
adding news rs = rs ++ news

-- these came behind what the file was, and behind the records that were held
pub record Notes {S : Type 0} (s : Ghosts S) (u v : Ulog) (old new : S) (news : List Record) : Type 0 where
  pub writes : Writes s (Only 2) (Means s) (adding news) u v old new
  pub bytes : s.tells → s.now new 2 ≡ s.now old 2 ++ log_bytes news
  pub last_is : v.last ≡ last_of u.last news

-- ---- no room

-- so many bytes at a place of file 2 pass its limit, or the undo log has no room for those that stand there
abbrev pub LacksAt : {S : Type 0} → Ghosts S → S → S → ℕ → ℕ → Type 0
LacksAt s old new at size = Reached s.tells (LacksRoom s.limit s.overfills s.log_full 2 at size old new) s.now old new

-- so many bytes at its end do
abbrev pub EndLacks : {S : Type 0} → Ghosts S → S → S → ℕ → Type 0
EndLacks s old new size = s.tells → LacksAt s old new (length (s.now old 2)) size

-- so many bytes from a place on pass the limit of file 2, or the undo log is full
abbrev pub Lacks : {S : Type 0} → Ghosts S → S → ℕ → ℕ → Type 0
Lacks s new at size = (s.limit new 2 < at + size) ⊎ s.log_full new

-- one of these records has no timestamp: the last one held is the greatest that there is
pub record HasNoStamp (held : ℕ) (rs : List Record) : Type 0 where
  pub front : List Record
  pub next : Record
  pub behind : List Record
  pub parts : rs ≡ front ++ next ∷ behind
  pub late : 2 ^ 64 ≤ next.stamp
  pub before : next.before ≡ held
  pub most : held ≡ 2 ^ 64 - 1

-- one of them, which were to come behind so many bytes, has no room
pub record HasNoPlace {S : Type 0} (s : Ghosts S) (new : S) (long : ℕ) (rs : List Record) : Type 0 where
  pub front : List Record
  pub next : Record
  pub behind : List Record
  pub parts : rs ≡ front ++ next ∷ behind
  pub lacks : Lacks s new (long + length (log_bytes front)) (length (record_bytes next))

abbrev pub Overflows : {S : Type 0} → Ghosts S → ℕ → S → ℕ → List Record → Type 0
Overflows s held new long rs = HasNoStamp held rs ⊎ (s.tells → HasNoPlace s new long rs)

-- what came of the clock's answers, one for each request that was begun; a limit is met whatever it would have answered to the others
pub record Asks {S : Type 0} (s : Ghosts S) (result : Result Unit RecErr) (a b : Option (List ℕ)) (own : ℕ) (asked : List (List ℕ)) (u v : Ulog) (old new : S) : Type 0 where
  pub ticks : List ℕ
  pub told : Adds a b ticks
  pub small : All (λ t. t < 2 ^ 64) ticks
  pub few : length ticks ≤ length asked
  pub each : OnOk result (length ticks ≡ length asked)
  pub notes : OnOk result (Notes s u v old new (records_of own u.last ticks asked))
  pub full : IsErrOf result Full → (later : List ℕ) → Overflows s v.last new (length (s.now old 2)) (records_of own u.last (ticks ++ later) asked)

-- a record that may come next: its request is one whole updating request, it names the last timestamp held, and its own is greater
pub record MayAppend (u : Ulog) (r : Record) : Type 0 where
  pub update : IsUpdate r
  pub before : r.before ≡ u.last
  pub later : u.last < r.stamp

-- ---- one record after the other

-- the bytes of the next record came behind those that are to be written
pub record IsNoted (u v : Ulog) (own now : ℕ) (request old new : List ℕ) : Type 0 where
  pub bytes : new ≡ old ++ record_bytes (record_for own u.last now request)
  pub update : IsUpdate (record_for own u.last now request)
  pub last_is : v.last ≡ max (suc u.last) now
  pub index_is : v.index ≡ u.index

-- the records of the requests so far: some were written, and the bytes of the others wait
pub record Gathers {S : Type 0} (s : Ghosts S) (own : ℕ) (ticks : List ℕ) (asked : List (List ℕ)) (u v : Ulog) (old new : S) (b : Batch) : Type 0 where
  pub written : List Record
  pub waiting : List Record
  pub parts : records_of own u.last ticks asked ≡ written ++ waiting
  pub each : length ticks ≡ length asked
  pub bytes_are : b.bytes ≡ log_bytes waiting
  pub before_is : b.before ≡ last_of u.last written
  pub few : AreFew waiting
  pub updates : AreUpdates (written ++ waiting)
  pub follow : Follow u.last (written ++ waiting)
  pub last_is : v.last ≡ last_of u.last (written ++ waiting)
  pub wrote : s.tells → s.now new 2 ≡ s.now old 2 ++ log_bytes written
  pub spread : s.tells → (rs : List Record) → Holds u (s.now old 2) rs → Spread v.index.marks 0 0 (rs ++ written)
  pub others : Others s (Only 2) old new
  pub frame : OnlyWrites s old new
  pub sound : s.sound new

-- what was gathered stays so
abbrev pub StaysGathered : {S : Type 0} → Ghosts S → Ulog → Ulog → S → S → Batch → Batch → Type 0
StaysGathered {S} s v w old new b c = (own : ℕ) (ticks : List ℕ) (asked : List (List ℕ)) (u : Ulog) (a : S) → Gathers s own ticks asked u v a old b → Gathers s own ticks asked u w a new c

-- and this request with it
abbrev pub GathersOne : {S : Type 0} → Ghosts S → ℕ → ℕ → List ℕ → Ulog → Ulog → S → S → Batch → Batch → Type 0
GathersOne {S} s own now request v w old new b c =
    (ticks : List ℕ) (asked : List (List ℕ)) (u : Ulog) (a : S) → Gathers s own ticks asked u v a old b → Gathers s own (ticks ++ now ∷ []) (asked ++ request ∷ []) u w a new c

-- with its record they pass a limit
abbrev pub OverflowsWith : {S : Type 0} → Ghosts S → ℕ → ℕ → List ℕ → Ulog → Ulog → S → S → Batch → Type 0
OverflowsWith {S} s own now request v w old new b =
    (ticks : List ℕ) (asked : List (List ℕ)) (u : Ulog) (a : S) → Gathers s own ticks asked u v a old b → Overflows s w.last new (length (s.now a 2)) (records_of own u.last (ticks ++ now ∷ []) (asked ++ request ∷ []))

-- bytes wait, and have no room
abbrev pub WaitsInVain : {S : Type 0} → Ghosts S → S → S → Batch → Type 0
WaitsInVain s old new b = (b.bytes ≡ [] → ⊥) × EndLacks s old new (length b.bytes)
