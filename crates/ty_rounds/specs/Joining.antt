-- What keeping a round does to the connections: feeds are owed its records, and the link knows the last timestamp.
use Rattle.std.specs.Prelude.{◌≡◌, ℕ, Bool, List, map, if◌then◌else◌, Option, Some, None}
use Rattle.ty_world.specs.World.{Client}
use Rattle.ty_world.specs.Rounds.{feed_all}
use Rattle.ty_rounds.specs.Books.{Book, IsBook}
use Rattle.ty_rounds.specs.Holding.{AllHold, AllMid}
use Rattle.ty_rounds.specs.Keeping.{book_after}
use Rattle.ty_rounds.specs.Ready.{AreIntroduced, StayFew, Each, IsCalm, LinksKnow}
use Rattle.ty_rounds.specs.Peers.{numbers}
use Rattle.ty_rounds.specs.Works.{Work}
use Rattle.ty_rounds.specs.declared.logging.Logged.{Logged}
use Rattle.ty_rounds.specs.declared.peer.Peer.{Peer}
use Rattle.ty_rounds.specs.declared.peer.Role.{Role}
use Rattle.ty_rounds.specs.declared.peer.Role.TheVariants as role

-- the link knows this last timestamp
abbrev pub role_held : ℕ → Role → Role
role_held stamp role.Client = role.Client
role_held stamp (role.Fed f) = role.Fed f
role_held stamp (role.Called c) = role.Called (record c { link = record (c.link) { held = stamp } })

abbrev pub with_held : ℕ → Peer → Peer
with_held stamp p = record p { role = role_held stamp p.role }

abbrev pub all_held : Option Logged → List Peer → List Peer
all_held None ps = ps
all_held (Some l) ps = map (with_held l.ulog.last) ps

-- where anything was kept
abbrev pub held_after : Bool → Option Logged → List Peer → List Peer
held_after commits l ps = if commits then all_held l ps else ps

pub record Joins (o : Work) (l l' : Option Logged) (ps ps' : List Peer) : Type 0 where
  pub numbers : numbers ps' ≡ numbers ps
  pub few : StayFew ps ps'
  pub calm : Each IsCalm ps → Each IsCalm ps'
  pub links : LinksKnow l ps → LinksKnow l' ps'
  pub introduced : AreIntroduced ps → AreIntroduced ps'
  pub each : (b : Book) (file file' ticks : List ℕ) → IsBook l b file → IsBook l' (book_after b ticks o) file' → (ks : List Client) → AllMid b ps ks
      → AllHold (book_after b ticks o) ps' (feed_all b.is (book_after b ticks o).records ks)
