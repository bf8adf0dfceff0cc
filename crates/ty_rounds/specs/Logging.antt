-- Records that have no room in the update log.
use Rattle.std.specs.Prelude.{◌≡◌, ◌⊎◌, ◌≤◌, ◌+◌, ◌^◌, ℕ, List, ◌∷◌, ◌++◌, length}
use Rattle.ty_ulog.specs.declared.record.Record.{Record}
use Rattle.ty_ulog.specs.Records.{record_bytes}
use Rattle.ty_ulog.specs.Log.{log_bytes}

-- one of them, which were to come behind so many bytes, has no timestamp, since the greatest is held, or no room
pub record LacksRoom (lacks : ℕ → ℕ → Type 0) (long : ℕ) (rs : List Record) : Type 0 where
  pub front : List Record
  pub next : Record
  pub behind : List Record
  pub parts : rs ≡ front ++ next ∷ behind
  pub full : (2 ^ 64 ≤ next.stamp) ⊎ lacks (long + length (log_bytes front)) (length (record_bytes next))
