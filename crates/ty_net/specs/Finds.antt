-- What was found ready, and what the wire's numbers are behind it.
use Rattle.std.specs.Prelude.{◌≡◌, ◌<◌, ◌≤◌, ◌+◌, ◌++◌, ℕ, Bool, true, false, List, [], ◌∷◌, Option, Some, None}
use Rattle.tc_io.specs.declared.wire.Ev.{Ev}
use Rattle.tc_io.specs.Lines.{has, MayCome, open_after, ended_after, given_after}
use Rattle.ty_net.specs.declared.line.Heard.{Heard}
use Rattle.ty_net.specs.declared.line.Heard.TheVariants as heard
use Rattle.ty_net.specs.declared.roster.Roster.{Roster}
use Rattle.ty_net.specs.declared.sockets.Found.{Found}
use Rattle.ty_net.specs.declared.sockets.Found.TheVariants as found

-- what a read may give
abbrev pub MayHear : Heard → Type 0
MayHear (heard.Bytes n) = (0 < n) × (n ≤ 4096)
MayHear heard.End = Unit {0}
MayHear heard.Nothing = Unit {0}

-- what may be found where these are open, ended and paused
abbrev pub MayFind : List ℕ → List ℕ → List ℕ → Found → Type 0
MayFind conns ended paused (found.Bytes c n) = (0 < n) × (n ≤ 4096) × (has conns c ≡ true) × (has ended c ≡ false) × (has paused c ≡ false)
MayFind conns ended paused (found.End c) = (has conns c ≡ true) × (has ended c ≡ false)
MayFind conns ended paused found.Nothing = Unit {0}

-- a connection opened under this number
pub record Given (number : ℕ) (given now : ℕ) (conns after : List ℕ) : Type 0 where
  pub next : given ≤ number
  pub fresh : has conns number ≡ false
  pub given_now : now ≡ number + 1
  pub conns_now : after ≡ conns ++ number ∷ []

-- no connection opened, ended or closed
pub record SameNumbers (old new : Roster) : Type 0 where
  pub conns : new.conns.items ≡ old.conns.items
  pub ended : new.ended.items ≡ old.ended.items
  pub given : new.given ≡ old.given

-- this event came, or none
abbrev pub Took : (conns after ended ended_now : List ℕ) (given now : ℕ) (paused : List ℕ) → Option Ev → Type 0
Took conns after ended ended_now given now paused (Some ev) = ((busy : Bool) → MayCome conns ended given paused busy ev) × (after ≡ open_after conns ev) × (ended_now ≡ ended_after ended ev) × (now ≡ given_after given ev)
Took conns after ended ended_now given now paused None = (after ≡ conns) × (ended_now ≡ ended) × (now ≡ given)
