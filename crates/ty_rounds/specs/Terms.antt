-- What of the words a round goes by.
use Rattle.std.specs.Prelude.{◌≡◌, Option}
use Rattle.ty_world.specs.Logs.{is_replica}
use Rattle.ty_rounds.specs.Books.{settings_of}
use Rattle.ty_rounds.specs.declared.logging.Logged.{Logged}
use Rattle.ty_rounds.specs.declared.logging.Terms.{Terms}

pub record IsTerms (t : Terms) (l : Option Logged) : Type 0 where
  pub logs_is : t.logs ≡ (settings_of l).logs
  pub own_is : t.own ≡ (settings_of l).own
  pub replica_is : t.replica ≡ is_replica (settings_of l)

-- whichever settings the words give
abbrev pub Under : Terms → (Option Logged → Type 0) → Type 0
Under t P = (l : Option Logged) → IsTerms t l → P l
