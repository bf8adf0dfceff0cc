-- How the worlds of a run begin.
use Rattle.std.specs.Prelude.{◌≡◌, ◌++◌, ◌+◌, ℕ, Bool, true, false, List, [], length, Option, if◌then◌else◌}
use Rattle.tc_base.specs.Files.{Files}
use Rattle.tc_io.specs.declared.act.Act.{Act}
use Rattle.tc_io.specs.declared.wire.At.{At}
use Rattle.tc_model.specs.Contents.{Contents}
use Rattle.ty_ulog.specs.Log.{IsLog, records_in}
use Rattle.ty_ulog.specs.declared.record.Record.{Record}
use Rattle.ty_world.specs.Logs.{Settings, is_replica, plain}
use Rattle.ty_world.specs.Measure.{requests_in}
use Rattle.ty_world.specs.World.{Mark, World, started}
use Rattle.ty_rounds.specs.Books.{IsBook, settings_of}
use Rattle.ty_rounds.specs.declared.logging.Logged.{Logged}

-- with what the words say, and with what the clock will answer
pub record Start : Type 0 where
  pub is : Settings
  pub ticks : List ℕ

abbrev pub begun : Start → List At → Mark → World
begun st opens m = started st.is st.ticks opens m

-- with no update log the clock isn't asked
abbrev pub plainly : Start
plainly = record { is = plain; ticks = [] }

-- a clock that answers so, and then anything
abbrev pub answering : Settings → List ℕ → List ℕ → Start
answering is ticks later = record { is = is; ticks = ticks ++ later }

-- with the update log that a server keeps, where it keeps one
abbrev pub start_of : Option Logged → List ℕ → List ℕ → Start
start_of l ticks later = answering (settings_of l) ticks later

-- the update log is the one of a mark
abbrev pub StartsAs : Option Logged → Mark → Type 0
StartsAs l m = IsBook l (record { is = settings_of l; records = records_in m.log }) m.log

-- where a test holds
abbrev pub when : Bool → Type 0 → Type 0
when true P = P
when false P = Unit {0}

-- files that stand so, and file 2 is an update log, where one is kept
abbrev pub with_log : Bool → (Files → Contents → Type 0) → Files → Contents → Type 0
with_log true opens = λ files c. opens files c × IsLog (files 2) (records_in (files 2))
with_log false opens = opens

-- the records of the update log are those that it had, and others behind them
pub record Grows (w v : World) : Type 0 where
  pub more : List Record
  pub records_are : v.records ≡ w.records ++ more

-- so many turns suffice for a script: one for each event and each whole piece; with a master two for each event, one more, and one for each event that found a whole record on the link
abbrev pub most_turns : Settings → List Act → ℕ → ℕ → ℕ
most_turns is acts given looked = if is_replica is then (length acts + (length acts + requests_in given acts)) + 1 + looked else length acts + requests_in given acts
