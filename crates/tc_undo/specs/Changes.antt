-- A data file changes in a transaction: what is asked for, and what is left.
use Rattle.std.specs.Prelude.{◌≡◌, ℕ, ◌+◌, ◌-◌, ◌^◌, ◌≤◌, List, length, set, true}
use Rattle.tc_base.specs.Files.{Files}
use Rattle.tc_io.specs.Images.{Calls, now}
use Rattle.ud_log.specs.Undo.{all_short, is_data, length_of, place_of}
use Rattle.ud_state.specs.State.{AreLens, IsOpen, IsValid, Logging, LogOnly, Secured, Unchanged}
use Rattle.tc_undo.specs.Room.{log_end, needs, recorded_of, stop_of}
use Rattle.tc_undo.specs.declared.room.Log.{Log}

-- these are the lengths of the data files, none above the greatest
pub record KnowsLens (tells : Type 0) (files : Files) (lens : List ℕ) : Type 0 where
  pub short : all_short lens ≡ true
  pub are : tells → AreLens lens files

-- what is known of the log is true of the files
abbrev pub LogIsValid : Type 0 → Calls → Log → Type 0
LogIsValid tells cs log = tells → IsValid log.active cs log.end log.recorded log.changed

-- what is known of the log is true of the files, and a transaction is open
abbrev pub LogIsOpen : Type 0 → Calls → Log → Type 0
LogIsOpen tells cs log = tells → IsOpen cs log.end log.recorded log.changed

-- the lengths that it records, or those that it will
abbrev pub records : Log → List ℕ → List ℕ
records log lens = recorded_of log.active log.recorded lens

-- ---- old bytes go into the log

-- so many bytes of a data file at a place make an entry: the file has them, and had them when its length was recorded
pub record MakesEntry (tells : Type 0) (cs : Calls) (recorded : List ℕ) (file at n : ℕ) : Type 0 where
  pub data_file : is_data file ≡ true
  pub some : 1 ≤ n
  pub few : n ≤ 4096
  pub inside : at + n ≤ length_of recorded file
  pub within : tells → at + n ≤ length (now cs file)

-- the bytes of a data file from one place up to another may go behind a log of so many bytes: the file has them, and had them when its length was
-- recorded, and the log has room for their entries
pub record MayLog (tells : Type 0) (cs : Calls) (recorded : List ℕ) (end file at stop : ℕ) : Type 0 where
  pub data_file : is_data file ≡ true
  pub inside : stop ≤ length_of recorded file
  pub within : tells → stop ≤ length (now cs file)
  pub room : end + needs (stop - at) ≤ 2 ^ 62

-- the log alone changed: it has so many bytes, and among its entries the bytes of a file from one place up to another
pub record Logs (old new : Calls) (recorded : List ℕ) (file from to end : ℕ) : Type 0 where
  pub logging : Logging new recorded file from to
  pub end_is : end ≡ length (now new 1)
  pub only : LogOnly old new

-- the log alone changed: with these lengths recorded, the bytes of a file from one place up to another are in it and on the disk
pub record Secures (tells : Type 0) (old new : Calls) (recorded : List ℕ) (log : Log) (file at stop : ℕ) : Type 0 where
  pub records : log.recorded ≡ recorded
  pub low : log.end ≤ 2 ^ 62
  pub secured : tells → Secured new log.recorded file at stop
  pub end_is : tells → log.end ≡ length (now new 1)
  pub unchanged : tells → Unchanged new log.changed
  pub only : tells → LogOnly old new

-- ---- the file changes

-- a data file may change from one place up to another: the first lies in the file, those of the bytes that need entries end at `stop`, and the log
-- has room for them
pub record MayChange (tells : Type 0) (cs : Calls) (log : Log) (lens : List ℕ) (file at all stop : ℕ) : Type 0 where
  pub data_file : is_data file ≡ true
  pub within : tells → at ≤ length (now cs file)
  pub stop_is : stop ≡ stop_of log.active log.recorded lens file all
  pub room : log_end log.active log.end + needs (stop - at) ≤ 2 ^ 62

-- a data file changed in the transaction that is open, its length in the list too, and the others stay
pub record Changes (tells : Type 0) (old new : Calls) (log : Log) (before after : List ℕ) (file : ℕ) (size : ℕ → ℕ) (change : List ℕ → List ℕ) : Type 0 where
  pub active : log.active ≡ true
  pub low : log.end ≤ 2 ^ 62
  pub is_open : tells → IsOpen new log.end log.recorded log.changed
  pub lens : KnowsLens tells (now new) after
  pub sized : after ≡ set before (place_of file) (size (length_of before file))
  pub here : tells → now new file ≡ change (now old file)
  pub others : tells → (f : ℕ) → is_data f ≡ true → (file ≡ f → ⊥) → now new f ≡ now old f
