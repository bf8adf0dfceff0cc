-- What a server, its space and its wire are between two turns.
use Rattle.std.specs.Prelude.{◌≡◌, ◌<◌, ◌≤◌, ℕ, true, false, List, [], ◌∷◌, length, nat_eq, Option, Some, None}
use Rattle.std.specs.List.{list_any}
use Rattle.tc_base.specs.Files.{Files}
use Rattle.tc_io.specs.declared.wire.Wire as wire
use Rattle.tc_space.specs.declared.space.Space as space
use Rattle.tc_model.specs.Contents.{Contents}
use Rattle.ty_base.specs.Holding as holding
use Rattle.ty_rounds.specs.Peers.{has_link, is_called, is_fed, is_over, waiting_numbers, waits}
use Rattle.ty_rounds.specs.Holding.{Wired}
use Rattle.ty_rounds.specs.declared.logging.Logged.{Logged}
use Rattle.ty_rounds.specs.declared.peer.Peer.{Peer}
use Rattle.ty_rounds.specs.declared.peer.Role.{Role}
use Rattle.ty_rounds.specs.declared.peer.Role.TheVariants.{Client, Fed, Called}

-- how many bytes a connection holds: at most a part of a piece and one read, of the link a part of a record and one
abbrev pub unread_of : Role → List ℕ → List ℕ
unread_of Client unread = unread
unread_of (Fed f) unread = unread
unread_of (Called c) unread = c.link.unread

abbrev pub most_unread : Role → ℕ
most_unread Client = 33558528
most_unread (Fed f) = 33558528
most_unread (Called c) = 33558553

abbrev pub FewUnread : Peer → Type 0
FewUnread p = length (unread_of p.role p.session.unread) ≤ most_unread p.role

-- one reply, of a feed its id and 4,096 bytes of the update log
abbrev pub most_waiting : Role → ℕ
most_waiting Client = 67108864
most_waiting (Fed f) = 4100
most_waiting (Called c) = 67108864

abbrev pub FewWaiting : Peer → Type 0
FewWaiting p = length p.session.waiting ≤ most_waiting p.role

abbrev pub Each : (Peer → Type 0) → List Peer → Type 0
Each P [] = Unit {0}
Each P (p ∷ ps) = P p × Each P ps

-- it neither waits nor is over, and is no feed
pub record IsQuiet (p : Peer) : Type 0 where
  pub unfed : is_fed p.role ≡ false
  pub idle : waits p ≡ false
  pub stays : is_over p ≡ false

-- what doesn't stir is quiet
abbrev pub IsCalm : Peer → Type 0
IsCalm p = p.stirs ≡ false → IsQuiet p

-- those that hold few bytes hold few still
pub record StayFew (ps ps' : List Peer) : Type 0 where
  pub unread : Each FewUnread ps → Each FewUnread ps'
  pub waiting : Each FewWaiting ps → Each FewWaiting ps'

abbrev pub NoneOver : List Peer → Type 0
NoneOver ps = list_any is_over ps ≡ false

abbrev pub KnowsHeld : ℕ → Role → Type 0
KnowsHeld last Client = Unit {0}
KnowsHeld last (Fed f) = Unit {0}
KnowsHeld last (Called c) = c.link.held ≡ last

-- one of them alone is a link
abbrev pub OneLink : List Peer → Type 0
OneLink [] = Unit {0}
OneLink (p ∷ ps) = (is_called p.role ≡ true → has_link ps ≡ false) × OneLink ps

-- where no update log is kept, or no master is given, there is no link; else there is one at most
abbrev pub LinksMay : Option Logged → List Peer → Type 0
LinksMay None ps = has_link ps ≡ false
LinksMay (Some l) ps = (l.master ≡ None → has_link ps ≡ false) × OneLink ps

-- whatever is told, it knows the last timestamp held
abbrev pub LinksKnow : Option Logged → List Peer → Type 0
LinksKnow None ps = has_link ps ≡ false
LinksKnow (Some l) ps = Each (λ p. KnowsHeld l.ulog.last p.role) ps × LinksMay (Some l) ps

-- a link whose master's id wasn't read holds fewer than four bytes, where it isn't to be closed
abbrev pub IsIntroduced : Role → Type 0
IsIntroduced Client = Unit {0}
IsIntroduced (Fed f) = Unit {0}
IsIntroduced (Called c) = c.link.named ≡ false → c.broken ≡ false → length c.link.unread < 4

abbrev pub AreIntroduced : List Peer → Type 0
AreIntroduced ps = Each (λ p. IsIntroduced p.role) ps

-- a connection is no link that it wasn't, and what was known of it is
pub record KeepsLink (p p' : Peer) : Type 0 where
  pub called : is_called p'.role ≡ true → is_called p.role ≡ true
  pub held : (last : ℕ) → KnowsHeld last p.role → KnowsHeld last p'.role
  pub introduced : IsIntroduced p.role → IsIntroduced p'.role

-- what was known of links is
pub record KeepsLinks (ps ps' : List Peer) : Type 0 where
  pub know : (l : Option Logged) → LinksKnow l ps → LinksKnow l ps'
  pub introduced : AreIntroduced ps → AreIntroduced ps'

-- a read of at most 4,096 bytes of a connection that doesn't wait leaves few
abbrev pub AddsFew : ℕ → List ℕ → List Peer → List Peer → Type 0
AddsFew conn bytes ps ps' = list_any (nat_eq conn) (waiting_numbers ps) ≡ false → NoneOver ps → AreIntroduced ps → length bytes ≤ 4096 → StayFew ps ps'

-- a turn may be made: the wire's connections are the server's, none of them is to be closed, and all that was written is kept
pub record IsReady {S B W : Type 0} (s : space.Ghosts S) (g : wire.Ghosts W) (holds : B → Files → Contents → Type 0) (base : B) (space : S) (wire : W) (logged : Option Logged) (ps : List Peer) : Type 0 where
  pub opened : g.opened wire ≡ true
  pub wired : Wired (g.conns wire) ps
  pub base_is : holding.IsReady s holds base space
  pub untouched : s.touched space ≡ false
  pub none_over : NoneOver ps
  pub unread : Each FewUnread ps
  pub waiting : Each FewWaiting ps
  pub calm : Each IsCalm ps
  pub links : LinksKnow logged ps
  pub introduced : AreIntroduced ps
