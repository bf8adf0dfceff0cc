-- Where the server's connections stand for a world's.
use Rattle.std.specs.Prelude.{◌≡◌, ◌⊎◌, ◌≤◌, ℕ, Bool, true, false, List, [], ◌∷◌, ◌++◌, Option, None, nat_eq}
use Rattle.std.specs.List.{list_any}
use Rattle.tc_model.specs.Contents.{Contents, Walk}
use Rattle.ty_ulog.specs.Feeds.{Stands as IsPlaced, left}
use Rattle.ty_ulog.specs.Log.{log_bytes, above}
use Rattle.ty_ulog.specs.declared.feed.Feed.{Feed}
use Rattle.ty_world.specs.Clients.{of_client, of_feed, to_master}
use Rattle.ty_world.specs.Answers.{Introduced}
pub use Rattle.ty_world.specs.Answers.{AllFine, IsFine, IsGoing, AllGoing}
use Rattle.ty_world.specs.World.{Client, World, Mark, mark_of, Rounded, commits_of, IsRested}
use Rattle.ty_rounds.specs.Books.{Book, IsBook, held}
use Rattle.ty_rounds.specs.Peers.{all_taken, numbers}
use Rattle.ty_rounds.specs.Works.{Work}
use Rattle.ty_rounds.specs.declared.logging.Logged.{Logged}
use Rattle.ty_rounds.specs.declared.peer.Caller.{Caller}
use Rattle.ty_rounds.specs.declared.peer.Peer.{Peer}
use Rattle.ty_rounds.specs.declared.peer.Role.{Role}
use Rattle.ty_rounds.specs.declared.peer.Role.TheVariants as role

-- ---- one connection

-- what a feed is still to be given behind what waits
abbrev pub coming : Book → Role → List ℕ
coming b role.Client = []
coming b (role.Fed f) = left f b.records
coming b (role.Called c) = []

pub record IsPlain (unread : List ℕ) (k : Client) : Type 0 where
  pub role_is : k.role ≡ of_client
  pub unread_is : k.unread ≡ unread

-- what is owed to a feed: what was by then, and all records above its timestamp
pub record IsFed (b : Book) (f : Feed) (k : Client) : Type 0 where
  pub logged : b.is.logs ≡ true
  pub base : List ℕ
  pub role_is : k.role ≡ of_feed f.above base
  pub owed : k.owed ≡ base ++ log_bytes (above f.above b.records)
  pub placed : IsPlaced f b.records

-- the link has the same bytes, and knows the last timestamp held
pub record IsCalled (b : Book) (c : Caller) (k : Client) : Type 0 where
  pub role_is : k.role ≡ to_master c.link.named c.broken
  pub unread_is : k.unread ≡ c.link.unread
  pub own_is : c.link.own ≡ b.is.own
  pub held_is : c.link.held ≡ held b

abbrev pub PlaysAs : Book → Role → List ℕ → Client → Type 0
PlaysAs b role.Client unread k = IsPlain unread k
PlaysAs b (role.Fed f) unread k = IsFed b f k
PlaysAs b (role.Called c) unread k = IsCalled b c k

pub record Holds (b : Book) (p : Peer) (k : Client) : Type 0 where
  pub conn : k.conn ≡ p.conn
  pub plays : PlaysAs b p.role p.session.unread k
  pub owed : k.owed ≡ k.out ++ (p.session.waiting ++ coming b p.role)
  pub gone : k.gone ≡ p.gone
  pub ended : k.ended ≡ p.ended
  pub extra : k.extra ≡ p.extra

abbrev pub AllHold : Book → List Peer → List Client → Type 0
AllHold b [] [] = Unit {0}
AllHold b (p ∷ ps) (k ∷ ks) = Holds b p k × AllHold b ps ks
AllHold b [] (k ∷ ks) = ⊥
AllHold b (p ∷ ps) [] = ⊥

-- where nothing waits, nothing is to come
abbrev pub IsSettled : Book → Peer → Type 0
IsSettled b p = all_taken p ≡ true → coming b p.role ≡ []

abbrev pub AllSettled : Book → List Peer → Type 0
AllSettled b [] = Unit {0}
AllSettled b (p ∷ ps) = IsSettled b p × AllSettled b ps

-- whatever clients the old ones stood for, the new ones stand for what this makes of them
abbrev pub HoldsAs : (List Client → List Client) → List Peer → List Peer → Type 0
HoldsAs f ps ps' = (b : Book) (ks : List Client) → AllHold b ps ks → AllHold b ps' (f ks)

-- a feed that was asked for in this round: it is owed its id, and no record yet
pub record IsNew (b : Book) (p : Peer) (k : Client) : Type 0 where
  pub logged : b.is.logs ≡ true
  pub conn : k.conn ≡ p.conn
  pub above : ℕ
  pub p_role : p.role ≡ role.Fed (record { above = above; place = None })
  pub k_role : k.role ≡ of_feed above k.owed
  pub owed : k.owed ≡ k.out ++ p.session.waiting
  pub gone : k.gone ≡ p.gone
  pub ended : k.ended ≡ p.ended
  pub extra : k.extra ≡ p.extra

-- behind a round, before its records are there
abbrev pub HoldsMid : Book → Peer → Client → Type 0
HoldsMid b p k = Holds b p k ⊎ IsNew b p k

abbrev pub AllMid : Book → List Peer → List Client → Type 0
AllMid b [] [] = Unit {0}
AllMid b (p ∷ ps) (k ∷ ks) = HoldsMid b p k × AllMid b ps ks
AllMid b [] (k ∷ ks) = ⊥
AllMid b (p ∷ ps) [] = ⊥

-- ---- all

abbrev pub AreApart : List ℕ → Type 0
AreApart [] = Unit {0}
AreApart (c ∷ cs) = (list_any (nat_eq c) cs ≡ false) × AreApart cs

-- the wire's open connections are the server's
pub record Wired (conns : List ℕ) (ps : List Peer) : Type 0 where
  pub same : conns ≡ numbers ps
  pub apart : AreApart conns

-- ---- a world

-- what a server is besides its base
pub record State : Type 0 where
  pub logged : Option Logged
  pub due : Bool
  pub walk : Walk
  pub peers : List Peer

abbrev pub book_of : World → Book
book_of w = record { is = w.is; records = w.records }

-- between two turns, where this is known of the mark, and the numbers given are below that
pub record Stands (known : Mark → Type 0) (given : ℕ) (v : State) (w : World) : Type 0 where
  pub mark : known (mark_of w)
  pub book : IsBook v.logged (book_of w) w.log
  pub due_is : w.due ≡ v.due
  pub walk_is : w.walk ≡ v.walk
  pub each : AllHold (book_of w) v.peers w.there
  pub past : AllFine w.past
  pub rested : IsRested w
  pub introduced : Introduced w
  pub older : List Mark
  pub marked : w.marks ≡ mark_of w ∷ older
  pub above : w.given ≤ given

-- a round was served: its contents are held, and these are its walk and its clients
pub record RoundsTo (b : Book) (o : Work) (holds : Contents → Type 0) (k : Walk) (ps : List Peer) (d : Rounded) : Type 0 where
  pub commits_is : o.commits ≡ commits_of d
  pub updates_is : b.is.logs ≡ true → o.updates ≡ d.round.made.updates
  pub labels_is : o.labels ≡ d.round.made.labels
  pub taken_is : o.taken ≡ d.looked.dealt_is.taken
  pub gap_is : o.gap ≡ d.looked.dealt_is.gap
  pub contents : holds d.looked.dealt_is.contents
  pub walk_is : k ≡ d.looked.dealt_is.walk
  pub each : AllMid b ps d.looked.clients

-- nothing but the connections has changed
pub record Same (w v : World) : Type 0 where
  pub is_same : v.is ≡ w.is
  pub mark : mark_of v ≡ mark_of w
  pub records : v.records ≡ w.records
  pub ticks : v.ticks ≡ w.ticks
  pub due : v.due ≡ w.due
  pub gaps : v.gaps ≡ w.gaps
  pub looked : v.looked ≡ w.looked
  pub walk : v.walk ≡ w.walk
  pub marks : v.marks ≡ w.marks
  pub copies : v.copies ≡ w.copies
  pub shut : v.shut ≡ w.shut
  pub events : v.events ≡ w.events
  pub opens : v.opens ≡ w.opens
  pub given : v.given ≡ w.given
