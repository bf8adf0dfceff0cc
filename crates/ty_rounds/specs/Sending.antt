-- What sends do.
use Rattle.std.specs.Prelude.{◌≡◌, ◌<◌, ◌+◌, ◌≤◌, ℕ, true, false, List, [], ◌∷◌, ◌++◌, length, take, OnOk, Option, Result}
use Rattle.std.specs.List.{list_any}
use Rattle.tc_base.specs.declared.fault.Fault.{Fault}
use Rattle.tc_io.specs.Told.{Adds}
use Rattle.tc_io.specs.Script.{Plays}
use Rattle.tc_io.specs.declared.wire.Wire as wire
use Rattle.tc_io.specs.declared.wire.Entry.{Entry}
use Rattle.tc_io.specs.declared.wire.Entry.TheVariants.{Open, Dial, Event, Send, Close}
use Rattle.tc_space.specs.declared.space.Space as space
use Rattle.ty_ulog.specs.Feeds.{room}
use Rattle.ty_world.specs.World.{Client, World, AreNext, sent, is_rested, is_restless, world_after, SendsTo, AllOf, AllAsked, AllCame}
use Rattle.ty_rounds.specs.Books.{Book, KnowsLog}
use Rattle.ty_rounds.specs.Holding.{Holds, AllHold, AllGoing, AllSettled, IsFine, IsGoing, IsSettled, Same, book_of, coming}
use Rattle.ty_rounds.specs.Peers.{all_taken, is_fed}
use Rattle.ty_rounds.specs.declared.logging.Logged.{Logged}
use Rattle.ty_rounds.specs.declared.outcome.TurnErr.{TurnErr}
use Rattle.ty_rounds.specs.declared.peer.Peer.{Peer}
use Rattle.ty_rounds.specs.declared.peer.Role.{Role}
use Rattle.ty_rounds.specs.declared.peer.Role.TheVariants as role

-- sends to one connection and nothing else
abbrev pub SendTo : ℕ → Entry → Type 0
SendTo c (Open at) = ⊥
SendTo c (Dial host port answer) = ⊥
SendTo c (Event paused busy ev bytes) = ⊥
SendTo c (Send d bytes answer) = d ≡ c
SendTo c (Close d) = ⊥

-- what an entry does to the client that it is sent to
abbrev pub sent_by : Entry → Client → Client
sent_by (Open at) k = k
sent_by (Dial host port answer) k = k
sent_by (Event paused busy ev bytes) k = k
sent_by (Send d bytes answer) k = sent bytes answer k
sent_by (Close d) k = k

abbrev pub sent_all : List Entry → Client → Client
sent_all [] k = k
sent_all (e ∷ es) k = sent_all es (sent_by e k)

-- a client that takes more is offered what comes next of what it is owed
pub record Offers (k : Client) (bytes : List ℕ) : Type 0 where
  pub takes : IsGoing k
  pub bytes_are : AreNext k bytes
  pub some : 0 < length bytes

abbrev pub IsOffer : Client → Entry → Type 0
IsOffer k (Open at) = ⊥
IsOffer k (Dial host port answer) = ⊥
IsOffer k (Event paused busy ev bytes) = ⊥
IsOffer k (Send d bytes answer) = Offers k bytes
IsOffer k (Close d) = ⊥

abbrev pub AllOffers : Client → List Entry → Type 0
AllOffers k [] = Unit {0}
AllOffers k (e ∷ es) = IsOffer k e × AllOffers (sent_by e k) es

-- how many bytes a feed may still be given
abbrev pub room_of : Role → ℕ
room_of role.Client = 0
room_of (role.Fed f) = room f.place
room_of (role.Called c) = 0

-- nothing is known of the update log
abbrev pub AnyBook : Book → Type 0
AnyBook b = Unit {0}

module _ (Known : Book → Type 0) where
  -- whatever client the connection stood for, it stands for what the sends make of it, and each was a right offer
  pub record Delivers (p p' : Peer) (es : List Entry) : Type 0 where
    pub sends : AllOf (SendTo p.conn) es
    pub holds : (b : Book) → Known b → (k : Client) → Holds b p k → Holds b p' (sent_all es k)
    pub offers : (b : Book) → Known b → (k : Client) → Holds b p k → IsGoing k → AllOffers k es

  -- and was sent all, or its last send took not all
  pub record Rests (p : Peer) (es : List Entry) : Type 0 where
    pub rested : (b : Book) → Known b → (k : Client) → Holds b p k → is_rested (sent_all es k) ≡ true

  module _ {W : Type 0} (g : wire.Ghosts W) where
    pub record DeliversOne (x y : W) (p p' : Peer) (ok : Result (Unit {0}) Fault) : Type 0 where
      pub entries : List Entry
      pub told : Adds (g.transcript x) (g.transcript y) entries
      pub plays : OnOk ok (Plays (g.plays x) (g.plays y) entries)
      pub delivers : Delivers p p' entries
      pub rests : OnOk ok (Rests p entries)

    -- what waited was offered: all was taken, and it takes more, or its last send took not all
    pub record OffersOne (x y : W) (p p' : Peer) (ok : Result (Unit {0}) Fault) : Type 0 where
      pub entries : List Entry
      pub told : Adds (g.transcript x) (g.transcript y) entries
      pub plays : OnOk ok (Plays (g.plays x) (g.plays y) entries)
      pub delivers : Delivers p p' entries
      pub going : OnOk ok (all_taken p' ≡ true → (b : Book) → Known b → (k : Client) → Holds b p k → IsGoing k → IsGoing (sent_all entries k))
      pub stops : OnOk ok (all_taken p' ≡ false → (k : Client) → (sent_all entries k).stopped ≡ true)

-- a feed with nothing waiting was given what comes next
pub record Fills {S : Type 0} (s : space.Ghosts S) (l : Option Logged) (a : S) (p p' : Peer) : Type 0 where
  pub conn : p'.conn ≡ p.conn
  pub fed : is_fed p'.role ≡ true
  pub few : length p'.session.waiting ≤ 4096
  pub falls : room_of p'.role + length p'.session.waiting ≤ room_of p.role
  pub holds : (b : Book) → KnowsLog s l a b → (k : Client) → Holds b p k → Holds b p' k
  pub all : p'.session.waiting ≡ [] → (b : Book) → KnowsLog s l a b → (k : Client) → Holds b p k → coming b p'.role ≡ []

-- the sends to a feed, where the update log is known; of one whose reading failed too what was sent is a front of what it is owed
pub record FeedsOne {S W : Type 0} (s : space.Ghosts S) (g : wire.Ghosts W) (l : Option Logged) (a : S) (x y : W) (p p' : Peer) (ok : Result (Unit {0}) TurnErr) : Type 0 where
  pub entries : List Entry
  pub told : Adds (g.transcript x) (g.transcript y) entries
  pub plays : OnOk ok (Plays (g.plays x) (g.plays y) entries)
  pub sends : AllOf (SendTo p.conn) entries
  pub offers : (b : Book) → KnowsLog s l a b → (k : Client) → Holds b p k → IsGoing k → AllOffers k entries
  pub fine : (b : Book) → KnowsLog s l a b → (k : Client) → Holds b p k → (rest : List ℕ) × ((sent_all entries k).owed ≡ (sent_all entries k).out ++ rest)
  pub holds : OnOk ok ((b : Book) → KnowsLog s l a b → (k : Client) → Holds b p k → Holds b p' (sent_all entries k))
  pub rests : OnOk ok (Rests (KnowsLog s l a) p entries)
  pub settled : OnOk ok ((b : Book) → KnowsLog s l a b → (k : Client) → Holds b p k → IsSettled b p')

-- ---- all

-- none of them is to be offered more
abbrev pub NoneRestless : List Client → Type 0
NoneRestless ks = list_any is_restless ks ≡ false

-- a world behind sends to the first connections
pub record SentFront (ps' : List Peer) (count : ℕ) (w v : World) (es : List Entry) : Type 0 where
  pub each : AllHold (book_of w) ps' v.there
  pub past : v.past ≡ w.past
  pub same : Same w v
  pub asked : AllAsked w es
  pub came : AllCame w es
  pub done : List Client
  pub left : List Client
  pub parts : v.there ≡ done ++ left
  pub count_is : length done ≡ count
  pub rested : NoneRestless done
  pub going : AllGoing left
  pub settled : AllSettled (book_of w) (take count ps')

-- a world behind the sends to all, or to some where one failed
pub record SentAll (ok : Result (Unit {0}) TurnErr) (ps' : List Peer) (w v : World) (es : List Entry) : Type 0 where
  pub fine : IsFine v
  pub past : v.past ≡ w.past
  pub same : Same w v
  pub asked : AllAsked w es
  pub came : AllCame w es
  pub done : OnOk ok (AllHold (book_of w) ps' v.there × NoneRestless v.there × AllSettled (book_of w) ps')

module _ {W : Type 0} (g : wire.Ghosts W) where
  -- the wire is open, and its connections and the numbers that it gave stay
  pub record WireStays (x y : W) : Type 0 where
    pub opened : g.opened y ≡ true
    pub conns : g.conns y ≡ g.conns x
    pub given : g.given y ≡ g.given x

module _ {S W : Type 0} (s : space.Ghosts S) (g : wire.Ghosts W) (l : Option Logged) (a : S) where
  pub record DeliversFront (x y : W) (ps ps' : List Peer) (count : ℕ) : Type 0 where
    pub entries : List Entry
    pub told : Adds (g.transcript x) (g.transcript y) entries
    pub plays : Plays (g.plays x) (g.plays y) entries
    pub calls : AllOf (SendsTo (g.conns x)) entries
    pub ends : (w : World) → KnowsLog s l a (book_of w) → AllHold (book_of w) ps w.there → AllGoing w.there → SentFront ps' count w (world_after entries w) entries

  pub record DeliversAll (x y : W) (ps ps' : List Peer) (ok : Result (Unit {0}) TurnErr) : Type 0 where
    pub entries : List Entry
    pub told : Adds (g.transcript x) (g.transcript y) entries
    pub plays : OnOk ok (Plays (g.plays x) (g.plays y) entries)
    pub calls : AllOf (SendsTo (g.conns x)) entries
    pub ends : (w : World) → KnowsLog s l a (book_of w) → AllHold (book_of w) ps w.there → AllGoing w.there → IsFine w → SentAll ok ps' w (world_after entries w) entries
