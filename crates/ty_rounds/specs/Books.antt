-- An update log, as a server keeps one and as its records are.
use Rattle.std.specs.Prelude.{◌≡◌, ℕ, true, List, Option, Some, None, option_map}
use Rattle.std.specs.Option.{IfSome}
use Rattle.tc_space.specs.declared.space.Space.{Ghosts}
use Rattle.ty_ulog.specs.declared.record.Record.{Record}
use Rattle.ty_ulog.specs.Holding.{Holds}
use Rattle.ty_ulog.specs.Log.{last_of}
use Rattle.ty_world.specs.Logs.{Settings, plain}
use Rattle.ty_rounds.specs.declared.logging.Logged.{Logged}
use Rattle.ty_rounds.specs.declared.logging.Master.{Master}

-- ---- what the words say

abbrev pub address : Master → List ℕ × ℕ
address m = (m.host, m.port)

-- where no update log is kept there is neither an id of any use nor a master
abbrev pub settings_of : Option Logged → Settings
settings_of None = plain
settings_of (Some l) = record { logs = true; own = l.own; master = option_map address l.master }

-- ---- the records

-- what the words say, and the records of the update log
pub record Book : Type 0 where
  pub is : Settings
  pub records : List Record

-- the last timestamp held
abbrev pub held : Book → ℕ
held b = last_of 0 b.records

-- a book with more records
abbrev pub with_records : Book → List Record → Book
with_records b rs = record b { records = rs }

-- where an update log is kept, file 2 is it
pub record IsBook (l : Option Logged) (b : Book) (file : List ℕ) : Type 0 where
  pub is_same : b.is ≡ settings_of l
  pub holds : IfSome l (λ x. Holds x.ulog file b.records)

-- it is that of a space whose files are told
pub record KnowsLog {S : Type 0} (s : Ghosts S) (l : Option Logged) (space : S) (b : Book) : Type 0 where
  pub told : s.tells
  pub book : IsBook l b (s.now space 2)

-- the same words, whatever the update log
abbrev pub SameTerms : Option Logged → Option Logged → Type 0
SameTerms old new = settings_of new ≡ settings_of old
