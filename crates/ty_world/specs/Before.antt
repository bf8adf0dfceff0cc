-- The world as it was before text commands, an update log, a link and copies.
use Rattle.std.specs.Prelude.{◌≡◌, ℕ, suc, Bool, true, false, not, ◌<◌, ◌≤◌, ◌&&◌, ◌||◌, List, [], ◌∷◌, ◌++◌, length, take, drop, map, None, Ok, Err, nat_eq, nat_lt, if◌then◌else◌}
use Rattle.std.specs.List.{list_any, filter}
pub use Rattle.tc_base.specs.Bytes.{IsBytes}
use Rattle.tc_base.specs.declared.request.Request.{Request}
use Rattle.tc_base.specs.declared.request.Request.TheVariants.{Repl}
use Rattle.tc_base.specs.declared.fields.NotWhole.TheVariants.{Part}
use Rattle.tc_base.specs.Reading.{Front}
use Rattle.tc_io.specs.declared.wire.At.{At}
use Rattle.tc_io.specs.declared.wire.Ev.{Ev}
use Rattle.tc_io.specs.declared.wire.Ev.TheVariants.{Opened, Read, Ended, Quiet, Shut}
use Rattle.tc_io.specs.declared.wire.Sent.{Sent}
use Rattle.tc_io.specs.declared.wire.Sent.TheVariants.{Took, NotYet, Gone}
use Rattle.tc_io.specs.declared.wire.Entry.{Entry}
use Rattle.tc_io.specs.declared.wire.Entry.TheVariants.{Open, Dial, Event, Send, Close}
use Rattle.tc_io.specs.Lines.{given_after}
use Rattle.ty_wire.specs.Reading.{request_at}
use Rattle.ty_wire.specs.Spelling.{reply_bytes}
use Rattle.tc_model.specs.Contents.{Contents, Walk}
use Rattle.tc_model.specs.Apply.{Step, apply, is_updated}
use Rattle.tc_model.specs.Packing.{is_optimize}
use Rattle.ty_world.specs.Frames.{is_bad, is_whole}

pub record Client : Type 0 where
  pub conn : ℕ
  -- all bytes read of it, and those behind the requests placed
  pub input : List ℕ
  pub unread : List ℕ
  pub placed : List Request
  pub owed : List ℕ
  pub out : List ℕ
  pub gone : Bool
  pub ended : Bool
  -- one above 64
  pub extra : Bool
  -- its last send of this turn took not all
  pub stopped : Bool

-- what a commit keeps: the contents, and the update log, which is file 2
pub record Mark : Type 0 where
  pub contents : Contents
  pub log : List ℕ

pub record World : Type 0 where
  pub contents : Contents
  pub walk : Walk
  -- no request changes it
  pub log : List ℕ
  -- the newest first
  pub marks : List Mark
  -- client connections in ascending number, and those closed
  pub there : List Client
  pub past : List Client
  pub shut : Bool
  pub events : ℕ
  pub opens : List At
  -- all numbers that were given are below it
  pub given : ℕ

abbrev pub mark_of : World → Mark
mark_of w = record { contents = w.contents; log = w.log }

-- the database is opened, these addresses were, and nothing was asked for yet
abbrev pub started : List At → Mark → World
started opens m = record { contents = m.contents; walk = None; log = m.log; marks = m ∷ []; there = []; past = []; shut = false; events = 0; opens = opens; given = 0 }

-- ---- one connection

abbrev pub all_sent : Client → Bool
all_sent k = nat_eq (length k.out) (length k.owed)

abbrev pub has_whole : Client → Bool
has_whole k = is_whole (request_at k.unread)

-- paused: it holds a whole unserved request or unsent bytes
abbrev pub waits : Client → Bool
waits k = not (all_sent k) || has_whole k

abbrev pub is_ready : Client → Bool
is_ready k = not k.gone && all_sent k

-- to be closed
abbrev pub is_over : Client → Bool
is_over k = k.gone || (k.extra || (all_sent k && (is_bad (request_at k.unread) || (k.ended && not (has_whole k)))))

-- after its sends it was sent all, or its last send said not yet, or gone
abbrev pub is_rested : Client → Bool
is_rested k = all_sent k || k.stopped

-- ---- rounds

-- what a repl is answered, which what a request makes of the database leaves out: so far it is refused
abbrev pub repl_reply : Request → List ℕ
repl_reply (Repl timestamp server) = 1 ∷ []
repl_reply _ = []

abbrev pub owed_for : Request → Step → List ℕ
owed_for r s = reply_bytes s.reply ++ repl_reply r

pub record Round : Type 0 where
  pub contents : Contents
  pub walk : Walk
  pub clients : List Client
  pub updated : Bool
  -- whether there is anything to commit
  pub commits : Bool

pub record Served : Type 0 where
  pub contents : Contents
  pub walk : Walk
  pub client : Client
  pub updated : Bool
  pub commits : Bool

abbrev pub serves : Client → Request → List ℕ → Step → Served
serves k r rest s = record { contents = s.contents; walk = s.walk; client = record k { unread = rest; placed = k.placed ++ r ∷ []; owed = k.owed ++ owed_for r s }; updated = is_updated r s; commits = is_updated r s || is_optimize r }

abbrev pub served : Contents → Walk → Client → Front Request → Served
served c w k (Ok x) = serves k x.0 x.1 (apply false x.0 c w)
served c w k (Err e) = record { contents = c; walk = w; client = k; updated = false; commits = false }

abbrev pub front_of : Client → Front Request
front_of k = if is_ready k then request_at k.unread else Err Part

-- one connection's next request, where it is ready and a whole one stands there
unfoldable pub round_one : Contents → Walk → Client → Served
round_one c w k = served c w k (front_of k)

-- one request of each, in ascending number
abbrev pub round_all : Contents → Walk → List Client → Round
round_all c w [] = record { contents = c; walk = w; clients = []; updated = false; commits = false }
round_all c w (k ∷ ks) =
    let one = round_one c w k in
    let rest = round_all one.contents one.walk ks in
    record { contents = rest.contents; walk = rest.walk; clients = one.client ∷ rest.clients; updated = one.updated || rest.updated; commits = one.commits || rest.commits }

-- ---- what an entry tells

abbrev pub unstopped : Client → Client
unstopped k = record k { stopped = false }

abbrev pub at_conn : ℕ → (Client → Client) → Client → Client
at_conn c f k = if nat_eq k.conn c then f k else k

abbrev pub new_client : ℕ → ℕ → Client
new_client c n = record { conn = c; input = []; unread = []; placed = []; owed = []; out = []; gone = false; ended = false; extra = not (nat_lt n 64); stopped = false }

abbrev pub with_read : List ℕ → Client → Client
with_read bytes k = record k { input = k.input ++ bytes; unread = k.unread ++ bytes }

abbrev pub with_end : Client → Client
with_end k = record k { ended = true }

abbrev pub heard : List Client → Ev → List ℕ → List Client
heard ks (Opened c) bytes = ks ++ new_client c (length ks) ∷ []
heard ks (Read c n) bytes = map (at_conn c (with_read bytes)) ks
heard ks (Ended c) bytes = map (at_conn c with_end) ks
heard ks Quiet bytes = ks
heard ks Shut bytes = ks

abbrev pub shut_after : Bool → Ev → Bool
shut_after b (Opened c) = b
shut_after b (Read c n) = b
shut_after b (Ended c) = b
shut_after b Quiet = b
shut_after b Shut = true

abbrev pub sent : List ℕ → Sent → Client → Client
sent bytes (Took n) k = record k { out = k.out ++ take n bytes; stopped = false }
sent bytes NotYet k = record k { stopped = true }
sent bytes Gone k = record k { stopped = true; gone = true }

abbrev pub round_of : World → Ev → List ℕ → Round
round_of w ev bytes = round_all w.contents w.walk (heard (map unstopped w.there) ev bytes)

abbrev pub marked : Bool → Mark → List Mark → List Mark
marked updated m marks = if updated then m ∷ marks else marks

-- behind an event and its round
abbrev pub with_round : World → Ev → Round → World
with_round w ev r = record w { contents = r.contents; walk = r.walk; marks = marked r.updated (record { contents = r.contents; log = w.log }) w.marks; there = r.clients; shut = shut_after w.shut ev; events = suc w.events; given = given_after w.given ev }

abbrev pub happens : World → Entry → World
happens w (Open at) = record w { opens = w.opens ++ at ∷ [] }
happens w (Dial host port answer) = w
happens w (Event paused busy ev bytes) = with_round w ev (round_of w ev bytes)
happens w (Send c bytes answer) = record w { there = map (at_conn c (sent bytes answer)) w.there }
happens w (Close c) = record w { there = filter (λ k. not (nat_eq k.conn c)) w.there; past = w.past ++ filter (λ k. nat_eq k.conn c) w.there }

abbrev pub world_after : List Entry → World → World
world_after [] w = w
world_after (e ∷ es) w = world_after es (happens w e)

-- ---- what is asked of the wire

abbrev pub should_pause : World → List ℕ
should_pause w = map (λ k. k.conn) (filter waits w.there)

abbrev pub is_some_waiting : World → Bool
is_some_waiting w = list_any waits w.there

-- a client that was sent neither all nor as much as it takes
abbrev pub is_restless : Client → Bool
is_restless k = not (is_rested k)

-- the turn before it was brought to its end: all was offered, and all that is over was closed
abbrev pub IsRested : World → Type 0
IsRested w = (list_any is_restless w.there ≡ false) × (list_any is_over w.there ≡ false)

-- a send: its client is the only one of that number and takes more; it is offered all that it is owed and wasn't sent; those before it rest
pub record IsOffered (ks : List Client) (c : ℕ) (bytes : List ℕ) : Type 0 where
  pub before : List Client
  pub client : Client
  pub behind : List Client
  pub there : ks ≡ before ++ client ∷ behind
  pub conn : client.conn ≡ c
  pub alone : list_any (λ k. nat_eq k.conn c) (before ++ behind) ≡ false
  pub here : client.gone ≡ false
  pub going : client.stopped ≡ false
  pub bytes_are : bytes ≡ drop (length client.out) client.owed
  pub some : 0 < length bytes
  pub rested : list_any is_restless before ≡ false

-- a closing: its client is there and over, and all sends are done
pub record IsClosed (ks : List Client) (c : ℕ) : Type 0 where
  pub there : list_any (λ k. nat_eq k.conn c) ks ≡ true
  pub over : list_any (λ k. nat_eq k.conn c && not (is_over k)) ks ≡ false
  pub rested : list_any is_restless ks ≡ false

-- nothing is dialled; an event is asked for with those that wait paused, busily where there are any; then come the sends, in ascending number, and the closings
abbrev pub AsksRight : World → Entry → Type 0
AsksRight w (Open at) = Unit {0}
AsksRight w (Dial host port answer) = ⊥
AsksRight w (Event paused busy ev bytes) = IsRested w × (paused ≡ should_pause w) × (busy ≡ is_some_waiting w) × (w.shut ≡ false)
AsksRight w (Send c bytes answer) = IsOffered w.there c bytes
AsksRight w (Close c) = IsClosed w.there c

abbrev pub AllAsked : World → List Entry → Type 0
AllAsked w [] = Unit {0}
AllAsked w (e ∷ es) = AsksRight w e × AllAsked (happens w e) es

-- ---- what a wire may give

-- a new number is above all that were given
abbrev pub IsAbove : ℕ → Ev → Type 0
IsAbove given (Opened c) = given ≤ c
IsAbove given (Read c n) = Unit {0}
IsAbove given (Ended c) = Unit {0}
IsAbove given Quiet = Unit {0}
IsAbove given Shut = Unit {0}

-- what came is bytes, and no more events are to come only where nothing waits
pub record Comes (given : ℕ) (busy : Bool) (ev : Ev) (bytes : List ℕ) : Type 0 where
  pub are_bytes : IsBytes bytes
  pub last : ev ≡ Shut → busy ≡ false
  pub above : IsAbove given ev

abbrev pub Came : World → Entry → Type 0
Came w (Open at) = Unit {0}
Came w (Dial host port answer) = Unit {0}
Came w (Event paused busy ev bytes) = Comes w.given busy ev bytes
Came w (Send c bytes answer) = Unit {0}
Came w (Close c) = Unit {0}

abbrev pub AllCame : World → List Entry → Type 0
AllCame w [] = Unit {0}
AllCame w (e ∷ es) = Came w e × AllCame (happens w e) es

-- ---- one turn

-- whether the round of a turn has anything to commit
abbrev pub commits_in : World → List Entry → Bool
commits_in w [] = false
commits_in w (Open at ∷ es) = false
commits_in w (Dial host port answer ∷ es) = false
commits_in w (Event paused busy ev bytes ∷ es) = (round_of w ev bytes).commits
commits_in w (Send c bytes answer ∷ es) = false
commits_in w (Close c ∷ es) = false
