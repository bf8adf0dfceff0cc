-- The update log: what a round writes into it.
use Rattle.std.specs.Prelude.{ℕ, Bool, false, List, [], ◌++◌, length, drop, Option, None, is_some, if◌then◌else◌}
use Rattle.ty_ulog.specs.declared.record.Record.{Record}
use Rattle.ty_ulog.specs.Log.{log_bytes, last_of}
use Rattle.ty_ulog.specs.Noting.{records_of}

-- what the words say: whether an update log is kept, the own id, and the master's host and port
pub record Settings : Type 0 where
  pub logs : Bool
  pub own : ℕ
  pub master : Option (List ℕ × ℕ)

-- no update log, and no master
abbrev pub plain : Settings
plain = record { logs = false; own = 0; master = None }

abbrev pub is_replica : Settings → Bool
is_replica is = is_some is.master

-- what a round adds, with an update log: a record of each request that updated, then those that were taken
abbrev pub news : Settings → List Record → List ℕ → List (List ℕ) → List Record → List Record
news is log ticks updates taken = if is.logs then records_of is.own (last_of 0 log) ticks updates ++ taken else []

-- the clock was asked once for each
abbrev pub ticks_after : Settings → List ℕ → List (List ℕ) → List ℕ
ticks_after is ticks updates = if is.logs then drop (length updates) ticks else ticks

-- these came behind what was there
abbrev pub records_after : Settings → List Record → List Record → List Record
records_after is log rs = if is.logs then log ++ rs else log

abbrev pub file_after : Settings → List ℕ → List Record → List ℕ
file_after is file rs = if is.logs then file ++ log_bytes rs else file
