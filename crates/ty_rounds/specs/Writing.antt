-- What writing the records of a round does.
use Rattle.std.specs.Prelude.{◌≡◌, ◌<◌, ◌≤◌, ◌^◌, ℕ, List, [], ◌++◌, length, All, Option, Some, None, Result, OnOk, IsErrOf}
use Rattle.tc_io.specs.Told.{Adds}
use Rattle.tc_space.specs.Stores.{Only}
use Rattle.tc_space.specs.Frames.{Others}
use Rattle.tc_space.specs.declared.errors.RecErr.{RecErr}
use Rattle.tc_space.specs.declared.errors.RecErr.TheVariants.{Full}
use Rattle.tc_space.specs.declared.space.Space.{Ghosts}
use Rattle.ty_ulog.specs.Noting.{Lacks, Notes, records_of}
use Rattle.ty_ulog.specs.declared.record.Record.{Record}
use Rattle.ty_rounds.specs.Books.{SameTerms}
use Rattle.ty_rounds.specs.Keeping.{asks_of}
use Rattle.ty_rounds.specs.Logging.{LacksRoom}
use Rattle.ty_rounds.specs.Works.{Work}
use Rattle.ty_rounds.specs.declared.logging.Logged.{Logged}

-- a record of each request that updated, then the one that was taken
abbrev pub written : Logged → List ℕ → Work → List Record
written l ticks o = records_of l.own l.ulog.last ticks o.updates ++ o.taken

-- they came behind what file 2 had, and behind the records that were held
pub record AreWritten {S : Type 0} (s : Ghosts S) (o : Work) (ticks : List ℕ) (l m : Logged) (old new : S) : Type 0 where
  pub each : length ticks ≡ length o.updates
  pub notes : Notes s l.ulog m.ulog old new (written l ticks o)
  pub sound : s.sound new
  pub others : Others s (Only 2) old new

-- the clock was asked so often, whatever comes of it
pub record Writes {S : Type 0} (s : Ghosts S) (o : Work) (x y : Option (List ℕ)) (l m : Logged) (old new : S) (result : Result (Unit {0}) RecErr) : Type 0 where
  pub ticks : List ℕ
  pub told : Adds x y ticks
  pub small : All (λ t. t < 2 ^ 64) ticks
  pub few : length ticks ≤ length o.updates
  pub own_is : m.own ≡ l.own
  pub master_is : m.master ≡ l.master
  pub wrote : OnOk result (AreWritten s o ticks l m old new)
  pub full : IsErrOf result Full → s.tells → (later : List ℕ) → LacksRoom (Lacks s new) (length (s.now old 2)) (written l (ticks ++ later) o)

-- ---- where an update log is kept

abbrev pub WroteSo : {S : Type 0} → Ghosts S → Work → List ℕ → Option Logged → Option Logged → S → S → Type 0
WroteSo s o ticks None None b d = (d ≡ b) × (ticks ≡ [])
WroteSo s o ticks (Some x) (Some y) b d = AreWritten s o ticks x y b d × (y.own ≡ x.own) × (y.master ≡ x.master)
WroteSo s o ticks None (Some y) b d = ⊥
WroteSo s o ticks (Some x) None b d = ⊥

-- a record has no room behind a file that is so long
abbrev pub LacksAll : {S : Type 0} → Ghosts S → Option Logged → S → ℕ → List ℕ → Work → Type 0
LacksAll s None new long ticks o = ⊥
LacksAll s (Some x) new long ticks o = LacksRoom (Lacks s new) long (written x ticks o)

pub record WritesAll {S : Type 0} (s : Ghosts S) (o : Work) (x y : Option (List ℕ)) (l m : Option Logged) (old new : S) (result : Result (Unit {0}) RecErr) : Type 0 where
  pub ticks : List ℕ
  pub told : Adds x y ticks
  pub small : All (λ t. t < 2 ^ 64) ticks
  pub few : length ticks ≤ asks_of l o
  pub same : SameTerms l m
  pub wrote : OnOk result (WroteSo s o ticks l m old new)
  pub full : IsErrOf result Full → s.tells → (later : List ℕ) → LacksAll s l new (length (s.now old 2)) (ticks ++ later) o
