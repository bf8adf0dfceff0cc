-- What serving one connection does, and a round.
use Rattle.std.specs.Prelude.{◌≡◌, ◌⊎◌, ℕ, Bool, true, false, List, [], ◌∷◌, ◌++◌, length, Option, Some}
use Rattle.tc_base.specs.Files.{Files}
use Rattle.tc_base.specs.declared.request.Request.{Request}
use Rattle.tc_io.specs.declared.wire.Ev.{Ev}
use Rattle.tc_model.specs.Apply.{apply}
use Rattle.tc_model.specs.Contents.{Contents, Walk}
use Rattle.tc_space.specs.declared.space.Space as space
use Rattle.ty_memc.specs.declared.text.Piece.{Piece}
use Rattle.ty_slave.specs.Lines.{looks}
use Rattle.ty_slave.specs.declared.link.Step.TheVariants.{Take}
use Rattle.ty_ulog.specs.Log.{last_of}
use Rattle.ty_ulog.specs.Updates.{update_in}
use Rattle.ty_ulog.specs.declared.record.Record.{Record}
use Rattle.ty_world.specs.Clients.{to_master}
use Rattle.ty_world.specs.Links.{line_of}
use Rattle.ty_world.specs.Logs.{Settings, is_replica}
use Rattle.ty_world.specs.Rounds.{Round, look_of}
use Rattle.ty_world.specs.World.{Client, World, is_ready, round_one, round_all, round_of_all, added, heard_by, rounded}
use Rattle.ty_base.specs.Holding as holding
use Rattle.ty_base.specs.Holding.{FillsAll, Held, Layout, Leaves, OfHeld}
use Rattle.ty_core.specs.Serving.{Begins, piece_packs, piece_writes}
use Rattle.ty_rounds.specs.Books.{Book, settings_of}
use Rattle.ty_rounds.specs.Logging.{LacksRoom}
use Rattle.ty_rounds.specs.Holding.{Holds, HoldsMid, AllHold, AllMid, RoundsTo}
use Rattle.ty_rounds.specs.Peers.{numbers}
use Rattle.ty_rounds.specs.Ready.{AreIntroduced, Each, FewUnread, FewWaiting, IsCalm, KeepsLink, LinksKnow}
use Rattle.ty_rounds.specs.Works.{AddsMade, IsFit, Work}
use Rattle.ty_rounds.specs.declared.logging.Logged.{Logged}
use Rattle.ty_rounds.specs.declared.peer.Peer.{Peer}

-- ---- one connection

-- whatever client the connection stood for, it stands for what the round makes of it
pub record RoundsOne (b : Book) (o p : Work) (c : Contents) (known : Contents → Type 0) (w w' : Walk) (p' : Peer) (k : Client) : Type 0 where
  pub adds : AddsMade b.is.logs (round_one b.is c w k).made o p
  pub contents : known (round_one b.is c w k).made.contents
  pub walk_is : w' ≡ (round_one b.is c w k).made.walk
  pub holds : HoldsMid b p' (round_one b.is c w k).client

pub record ServesOne (l : Option Logged) (o o' : Work) (c : Contents) (known : Contents → Type 0) (w w' : Walk) (p p' : Peer) : Type 0 where
  pub each : (b : Book) (k : Client) → b.is ≡ settings_of l → Holds b p k → RoundsOne b o o' c known w w' p' k

-- no record was taken, and no gap met
pub record SameLink (o p : Work) : Type 0 where
  pub taken_is : p.taken ≡ o.taken
  pub gap_is : p.gap ≡ o.gap

-- nothing is written where the round has nothing to commit yet
pub record ServesReady {S B : Type 0} (s : space.Ghosts S) (own : ℕ → Type 0) (layout : Files → Layout) (holds : B → Files → Contents → Type 0) (l : Option Logged) (o o' : Work) (base base' : B) (old new : S) (w w' : Walk) (p p' : Peer) : Type 0 where
  pub conn : p'.conn ≡ p.conn
  pub unread : FewUnread p → FewUnread p'
  pub waiting : FewWaiting p → FewWaiting p'
  pub calm : IsCalm p'
  pub links : KeepsLink p p'
  pub link : SameLink o o'
  pub fit : IsFit l o → o.taken ≡ [] → IsFit l o'
  pub rises : o'.commits ≡ false → o.commits ≡ false
  pub each : (c : Contents) → Held s holds base old c → ServesOne l o o' c (Held s holds base' new) w w' p p'
  pub ready : holding.IsReady s holds base' new
  pub leaves : Leaves s own layout (o'.commits ≡ false) old new

-- ---- a limit

-- a limit is reached in the piece that a client is served next, which may write: between the contents before it and those behind it; where it packs
-- the files, that of the undo log
pub record FillsOne (is : Settings) (fills : Contents → Contents → Type 0) (c : Contents) (w : Walk) (k : Client) : Type 0 where
  pub piece : Piece
  pub ready : is_ready k ≡ true
  pub begins : Begins piece k.unread
  pub writes : piece_writes piece ≡ true
  pub packs : piece_packs piece ≡ true → FillsAll fills
  pub full : fills c (round_one is c w k).made.contents

-- in the next piece behind the first ones of a round; behind the last, where there is anything to commit, that of the undo log
abbrev pub FillsNext : Settings → (Contents → Contents → Type 0) → Contents → Walk → List Client → List Client → Type 0
FillsNext is fills c w front [] = ((round_all is c w front).made.commits ≡ true) × FillsAll fills
FillsNext is fills c w front (k ∷ ks) = FillsOne is fills (round_all is c w front).made.contents (round_all is c w front).made.walk k

-- somewhere in the clients' part of a round
pub record FillsAt (is : Settings) (fills : Contents → Contents → Type 0) (c : Contents) (w : Walk) (ks : List Client) : Type 0 where
  pub front : List Client
  pub back : List Client
  pub parts : ks ≡ front ++ back
  pub next : FillsNext is fills c w front back

-- or in the request of the record that is taken
pub record FillsTaken (is : Settings) (records : List Record) (fills : Contents → Contents → Type 0) (c : Contents) (w : Walk) (ks : List Client) : Type 0 where
  pub replica : is_replica is ≡ true
  pub before : List Client
  pub link : Client
  pub behind : List Client
  pub there : ks ≡ before ++ link ∷ behind
  pub named : Bool
  pub broken : Bool
  pub role_is : link.role ≡ to_master named broken
  pub taken : Record
  pub request : Request
  pub step : (looks (line_of is.own (last_of 0 records) named link)).0 ≡ Take taken
  pub asks : update_in taken.request ≡ Some request
  pub full : fills c (apply false request c w).contents

-- in one of the two parts, or at its commit where a record was taken
pub data FillsPart (is : Settings) (records : List Record) (fills : Contents → Contents → Type 0) (c : Contents) (w : Walk) (ks : List Client) : Type 0 where
  of_client : FillsAt is fills c w ks → FillsPart is records fills c w ks
  of_link : FillsTaken is records fills (round_all is c w ks).made.contents (round_all is c w ks).made.walk (round_all is c w ks).clients → FillsPart is records fills c w ks
  at_commit : ((look_of is records (round_all is c w ks)).dealt_is.taken ≡ [] → ⊥) → FillsAll fills → FillsPart is records fills c w ks

-- in the round of an event, or in what it adds to the update log
abbrev pub FillsIn : (Contents → Contents → Type 0) → (ℕ → ℕ → Type 0) → World → Ev → List ℕ → Type 0
FillsIn fills lacks w ev bytes = FillsPart w.is w.records fills w.contents w.walk (heard_by w ev bytes) ⊎ LacksRoom lacks (length w.log) (added w (rounded w ev bytes))

-- of whatever contents and clients, a limit is reached in the clients' part, since the space stood as before it
abbrev pub FullRound : {S B : Type 0} → space.Ghosts S → (B → Files → Contents → Type 0) → (S → S → Contents → Contents → Type 0) → Option Logged → B → S → S → Walk → List Peer → Type 0
FullRound s holds fills l base old new w ps = OfHeld s holds base old (λ c. (b : Book) (ks : List Client) → b.is ≡ settings_of l → AllHold b ps ks → FillsAt b.is (fills old new) c w ks)

-- in one part or the other
abbrev pub FullParts : {S B : Type 0} → space.Ghosts S → (B → Files → Contents → Type 0) → (S → S → Contents → Contents → Type 0) → Option Logged → B → S → S → Walk → List Peer → Type 0
FullParts s holds fills l base old new w ps = OfHeld s holds base old (λ c. (b : Book) (ks : List Client) → b.is ≡ settings_of l → AllHold b ps ks → FillsPart b.is b.records (fills old new) c w ks)

-- in the piece of one of them
abbrev pub FullOne : {S B : Type 0} → space.Ghosts S → (B → Files → Contents → Type 0) → (S → S → Contents → Contents → Type 0) → Option Logged → B → S → S → Walk → Peer → Type 0
FullOne s holds fills l base old new w p = OfHeld s holds base old (λ c. (b : Book) (k : Client) → b.is ≡ settings_of l → Holds b p k → FillsOne b.is (fills old new) c w k)

-- ---- the round

-- its numbers stay, no connection holds more but for one reply, and the space may be used; nothing is written where it has nothing to commit
pub record Served {S B : Type 0} (s : space.Ghosts S) (own : ℕ → Type 0) (layout : Files → Layout) (holds : B → Files → Contents → Type 0) (l : Option Logged) (o : Work) (base' : B) (old new : S) (ps ps' : List Peer) : Type 0 where
  pub numbers : numbers ps' ≡ numbers ps
  pub unread : Each FewUnread ps → Each FewUnread ps'
  pub waiting : Each FewWaiting ps → Each FewWaiting ps'
  pub calm : Each IsCalm ps'
  pub links : LinksKnow l ps → LinksKnow l ps'
  pub fit : LinksKnow l ps → IsFit l o
  pub ready : holding.IsReady s holds base' new
  pub leaves : Leaves s own layout (o.commits ≡ false) old new

-- the clients' part was served: its contents are held, and these are its walk and its clients
pub record ClientsTo (b : Book) (o : Work) (holds : Contents → Type 0) (w' : Walk) (ps' : List Peer) (r : Round) : Type 0 where
  pub commits_is : o.commits ≡ r.made.commits
  pub updates_is : b.is.logs ≡ true → o.updates ≡ r.made.updates
  pub labels_is : o.labels ≡ r.made.labels
  pub contents : holds r.made.contents
  pub walk_is : w' ≡ r.made.walk
  pub each : AllMid b ps' r.clients

pub record ServesAll {S B : Type 0} (s : space.Ghosts S) (own : ℕ → Type 0) (layout : Files → Layout) (holds : B → Files → Contents → Type 0) (l : Option Logged) (o : Work) (base base' : B) (old new : S) (w w' : Walk) (ps ps' : List Peer) : Type 0 where
  pub served : Served s own layout holds l o base' old new ps ps'
  pub link : (o.taken ≡ []) × (o.gap ≡ [])
  pub each : (c : Contents) → Held s holds base old c → (b : Book) (ks : List Client) → b.is ≡ settings_of l → AllHold b ps ks → ClientsTo b o (Held s holds base' new) w' ps' (round_all b.is c w ks)

-- both parts
pub record Rounds {S B : Type 0} (s : space.Ghosts S) (own : ℕ → Type 0) (layout : Files → Layout) (holds : B → Files → Contents → Type 0) (l : Option Logged) (o : Work) (base base' : B) (old new : S) (w w' : Walk) (ps ps' : List Peer) : Type 0 where
  pub served : Served s own layout holds l o base' old new ps ps'
  pub introduced : LinksKnow l ps → AreIntroduced ps'
  pub each : (c : Contents) → Held s holds base old c → (b : Book) (ks : List Client) → b.is ≡ settings_of l → AllHold b ps ks → RoundsTo b o (Held s holds base' new) w' ps' (round_of_all b.is b.records c w ks)

-- the clients' part over the first connections
pub record Halfway (b : Book) (o : Work) (c : Contents) (known : Contents → Type 0) (w w' : Walk) (now : List Peer) (count : ℕ) (ks : List Client) : Type 0 where
  pub front : List Peer
  pub back : List Peer
  pub served : List Client
  pub rest : List Client
  pub peers_are : now ≡ front ++ back
  pub clients_are : ks ≡ served ++ rest
  pub at : length front ≡ count
  pub done : ClientsTo b o known w' front (round_all b.is c w served)
  pub left : AllHold b back rest

-- ---- a limit of one kind that is one of another

module _ (is : Settings) (f g : Contents → Contents → Type 0) (wider : (d e : Contents) → f d e → g d e) where
  pub fills_less : (c : Contents) (w : Walk) (k : Client) → FillsOne is f c w k → FillsOne is g c w k
  fills_less c w k x = record { piece = x.piece; ready = x.ready; begins = x.begins; writes = x.writes; packs = λ packs d e. wider d e (x.packs packs d e); full = wider c (round_one is c w k).made.contents x.full }

  next_less : (c : Contents) (w : Walk) (front back : List Client) → FillsNext is f c w front back → FillsNext is g c w front back
  next_less c w front [] x = (x.0, λ d e. wider d e (x.1 d e))
  next_less c w front (k ∷ ks) x = fills_less (round_all is c w front).made.contents (round_all is c w front).made.walk k x

  pub at_less : (c : Contents) (w : Walk) (ks : List Client) → FillsAt is f c w ks → FillsAt is g c w ks
  at_less c w ks x = record { front = x.front; back = x.back; parts = x.parts; next = next_less c w x.front x.back x.next }

  taken_less : (records : List Record) (c : Contents) (w : Walk) (ks : List Client) → FillsTaken is records f c w ks → FillsTaken is records g c w ks
  taken_less records c w ks x = record {
    replica = x.replica;
    before = x.before;
    link = x.link;
    behind = x.behind;
    there = x.there;
    named = x.named;
    broken = x.broken;
    role_is = x.role_is;
    taken = x.taken;
    request = x.request;
    step = x.step;
    asks = x.asks;
    full = wider c (apply false x.request c w).contents x.full;
  }

  pub part_less : (records : List Record) (c : Contents) (w : Walk) (ks : List Client) → FillsPart is records f c w ks → FillsPart is records g c w ks
  part_less records c w ks (of_client x) = of_client (at_less c w ks x)
  part_less records c w ks (of_link x) = of_link (taken_less records (round_all is c w ks).made.contents (round_all is c w ks).made.walk (round_all is c w ks).clients x)
  part_less records c w ks (at_commit some x) = at_commit some (λ d e. wider d e (x d e))
