-- What a transcript makes of the database, its update log, its copies and the connections.
use Rattle.std.specs.Prelude.{◌≡◌, ℕ, suc, ◌+◌, Bool, true, false, not, ◌<◌, ◌≤◌, ◌&&◌, List, [], ◌∷◌, ◌++◌, length, take, drop, map, Option, Some, None, nat_eq, nat_lt, if◌then◌else◌}
use Rattle.std.specs.List.{list_any, filter}
pub use Rattle.tc_base.specs.Bytes.{IsBytes}
use Rattle.tc_base.specs.Texts.{is_text}
use Rattle.tc_base.specs.declared.request.Request.TheVariants.{Repl}
use Rattle.tc_io.specs.declared.wire.At.{At}
use Rattle.tc_io.specs.declared.wire.Ev.{Ev}
use Rattle.tc_io.specs.declared.wire.Ev.TheVariants.{Opened, Read, Ended, Quiet, Shut}
use Rattle.tc_io.specs.declared.wire.Sent.{Sent}
use Rattle.tc_io.specs.declared.wire.Sent.TheVariants.{Took, NotYet, Gone}
use Rattle.tc_io.specs.declared.wire.Entry.{Entry}
use Rattle.tc_io.specs.declared.wire.Entry.TheVariants.{Open, Dial, Event, Send, Close}
use Rattle.tc_io.specs.Lines.{given_after, given_dialled, MayDial}
use Rattle.tc_io.specs.declared.wire.Dialled.{Dialled}
use Rattle.tc_io.specs.declared.wire.Dialled.TheVariants.{Conn, NotNow}
use Rattle.ty_wire.specs.Spelling.{spelling}
use Rattle.tc_model.specs.Contents.{Contents, Walk}
use Rattle.ty_ulog.specs.declared.record.Record.{Record}
use Rattle.ty_ulog.specs.Log.{last_of, records_in}
use Rattle.ty_world.specs.Logs.{Settings, is_replica, news, ticks_after, records_after, file_after}
pub use Rattle.ty_world.specs.Clients.{Client, all_sent, has_whole, waits, is_ready, is_over, is_rested, front_of}
use Rattle.ty_world.specs.Clients.{of_client, to_master, is_fed, is_link}
pub use Rattle.ty_world.specs.Rounds.{Round, Rounded, round_one, round_all, round_of_all, commits_of}
use Rattle.ty_world.specs.Rounds.{marks_in, feed_all}

-- what a commit keeps: the contents, and the update log, which is file 2
pub record Mark : Type 0 where
  pub contents : Contents
  pub log : List ℕ

-- a copy was made of what stands for this mark
pub record Copied : Type 0 where
  pub label : List ℕ
  pub mark : Mark

pub record World : Type 0 where
  pub is : Settings
  pub contents : Contents
  pub walk : Walk
  -- file 2, and where an update log is kept its records
  pub log : List ℕ
  pub records : List Record
  -- the clock's answers still to come
  pub ticks : List ℕ
  -- the newest first
  pub marks : List Mark
  -- copies, the newest first
  pub copies : List Copied
  -- connections in ascending number, and those closed
  pub there : List Client
  pub past : List Client
  -- the master is to be dialled where no link is open: no event came yet, or the last was Quiet
  pub due : Bool
  -- the gaps met by the link: the timestamp held, and the one that the record followed
  pub gaps : List (ℕ × ℕ)
  -- how many events found a whole record on the link
  pub looked : ℕ
  pub shut : Bool
  pub events : ℕ
  pub opens : List At
  -- all numbers that were given are below it
  pub given : ℕ

abbrev pub mark_of : World → Mark
mark_of w = record { contents = w.contents; log = w.log }

-- the database is opened, file 2 has the records of an update log where one is kept, these addresses were opened, and nothing was asked for yet
abbrev pub started : Settings → List ℕ → List At → Mark → World
started is ticks opens m = record {
  is = is;
  contents = m.contents;
  walk = None;
  log = m.log;
  records = records_in m.log;
  ticks = ticks;
  marks = m ∷ [];
  copies = [];
  there = [];
  past = [];
  due = true;
  gaps = [];
  looked = 0;
  shut = false;
  events = 0;
  opens = opens;
  given = 0;
}

-- the newest copy under a label
abbrev pub copied_at : List ℕ → List Copied → Option Mark
copied_at label [] = None
copied_at label (c ∷ cs) = if is_text c.label label then Some c.mark else copied_at label cs

-- ---- what an entry tells

abbrev pub unstopped : Client → Client
unstopped k = record k { stopped = false }

abbrev pub at_conn : ℕ → (Client → Client) → Client → Client
at_conn c f k = if nat_eq k.conn c then f k else k

abbrev pub new_client : ℕ → ℕ → Client
new_client c n = record { conn = c; input = []; unread = []; placed = []; owed = []; out = []; gone = false; ended = false; extra = not (nat_lt n 64); stopped = false; role = of_client }

-- it is owed the request for all updates above the last timestamp held, which is first offered behind the next event
abbrev pub new_link : Settings → List Record → ℕ → Client
new_link is log c = record (new_client c 0) { owed = spelling (Repl (last_of 0 log) is.own); stopped = true; role = to_master false false }

-- the link doesn't count among the clients
abbrev pub clients_in : List Client → ℕ
clients_in [] = 0
clients_in (k ∷ ks) = if is_link k.role then clients_in ks else suc (clients_in ks)

abbrev pub with_read : List ℕ → Client → Client
with_read bytes k = record k { input = k.input ++ bytes; unread = k.unread ++ bytes }

abbrev pub with_end : Client → Client
with_end k = record k { ended = true }

abbrev pub heard : List Client → Ev → List ℕ → List Client
heard ks (Opened c) bytes = ks ++ new_client c (clients_in ks) ∷ []
heard ks (Read c n) bytes = map (at_conn c (with_read bytes)) ks
heard ks (Ended c) bytes = map (at_conn c with_end) ks
heard ks Quiet bytes = ks
heard ks Shut bytes = ks

abbrev pub shut_after : Bool → Ev → Bool
shut_after b (Opened c) = b
shut_after b (Read c n) = b
shut_after b (Ended c) = b
shut_after b Quiet = b
shut_after b Shut = true

abbrev pub is_quiet : Ev → Bool
is_quiet (Opened c) = false
is_quiet (Read c n) = false
is_quiet (Ended c) = false
is_quiet Quiet = true
is_quiet Shut = false

abbrev pub sent : List ℕ → Sent → Client → Client
sent bytes (Took n) k = record k { out = k.out ++ take n bytes; stopped = false }
sent bytes NotYet k = record k { stopped = true }
sent bytes Gone k = record k { stopped = true; gone = true }

-- the clients as an event leaves them
abbrev pub heard_by : World → Ev → List ℕ → List Client
heard_by w ev bytes = heard (map unstopped w.there) ev bytes

abbrev pub rounded : World → Ev → List ℕ → Rounded
rounded w ev bytes = round_of_all w.is w.records w.contents w.walk (heard_by w ev bytes)

-- the records that a round adds
abbrev pub added : World → Rounded → List Record
added w d = news w.is w.records w.ticks d.round.made.updates d.looked.dealt_is.taken

-- the mark behind a round
abbrev pub mark_behind : World → Rounded → Mark
mark_behind w d = record { contents = d.looked.dealt_is.contents; log = file_after w.is w.log (added w d) }

-- a whole record stands on the link
abbrev pub is_looked_at : Client → Bool
is_looked_at k = is_link k.role && has_whole k

abbrev pub one_if : Bool → ℕ
one_if holds = if holds then 1 else 0

abbrev pub marked : Bool → Mark → List Mark → List Mark
marked updated m marks = if updated then m ∷ marks else marks

-- the same mark under each of these labels
abbrev pub copies_of : Mark → List (List ℕ) → List Copied
copies_of m labels = map (λ l. record { label = l; mark = m }) labels

-- behind an event, which left these connections, and its round
abbrev pub with_round : World → Ev → List Client → Rounded → World
with_round w ev ks d =
    let x = d.looked.dealt_is in
    let m = mark_behind w d in
    let records = records_after w.is w.records (added w d) in
    record w {
      contents = m.contents;
      walk = x.walk;
      log = m.log;
      records = records;
      ticks = ticks_after w.is w.ticks d.round.made.updates;
      marks = marked (marks_in d) m w.marks;
      copies = copies_of m d.round.made.labels ++ w.copies;
      there = feed_all w.is records d.looked.clients;
      due = is_quiet ev;
      gaps = w.gaps ++ x.gap;
      looked = w.looked + one_if (list_any is_looked_at ks);
      shut = shut_after w.shut ev;
      events = suc w.events;
      given = given_after w.given ev;
    }

abbrev pub with_dialled : Settings → List Record → List Client → Dialled → List Client
with_dialled is log ks (Conn c) = ks ++ new_link is log c ∷ []
with_dialled is log ks NotNow = ks

abbrev pub dialled : World → Dialled → World
dialled w answer = record w { there = with_dialled w.is w.records w.there answer; due = false; given = given_dialled w.given answer }

abbrev pub happens : World → Entry → World
happens w (Open at) = record w { opens = w.opens ++ at ∷ [] }
happens w (Dial host port answer) = dialled w answer
happens w (Event paused busy ev bytes) = with_round w ev (heard_by w ev bytes) (rounded w ev bytes)
happens w (Send c bytes answer) = record w { there = map (at_conn c (sent bytes answer)) w.there }
happens w (Close c) = record w { there = filter (λ k. not (nat_eq k.conn c)) w.there; past = w.past ++ filter (λ k. nat_eq k.conn c) w.there }

abbrev pub world_after : List Entry → World → World
world_after [] w = w
world_after (e ∷ es) w = world_after es (happens w e)

-- how a run begins: with what the words say, what the clock will answer, the addresses that were opened, and what was held
pub record Opening : Type 0 where
  pub is : Settings
  pub ticks : List ℕ
  pub opens : List At
  pub mark : Mark

abbrev pub begun : Opening → World
begun o = started o.is o.ticks o.opens o.mark

-- behind these entries
abbrev pub ran : Opening → List Entry → World
ran o es = world_after es (begun o)

-- ---- what is asked of the wire

abbrev pub should_pause : World → List ℕ
should_pause w = map (λ k. k.conn) (filter waits w.there)

abbrev pub is_some_waiting : World → Bool
is_some_waiting w = list_any waits w.there

-- a client that was sent neither all nor as much as it takes
abbrev pub is_restless : Client → Bool
is_restless k = not (is_rested k)

-- the turn before it was brought to its end: all was offered, and all that is over was closed
abbrev pub IsRested : World → Type 0
IsRested w = (list_any is_restless w.there ≡ false) × (list_any is_over w.there ≡ false)

-- these are bytes that a client is owed and wasn't sent: all, but of a feed at most 4,096 more than its id
pub record AreNext (k : Client) (bytes : List ℕ) : Type 0 where
  pub later : List ℕ
  pub parts : drop (length k.out) k.owed ≡ bytes ++ later
  pub all : is_fed k.role ≡ false → later ≡ []
  pub few : is_fed k.role ≡ true → length bytes ≤ 4100

-- a send: its client is the only one of that number and takes more; it is offered what it is owed and wasn't sent; those before it rest
pub record IsOffered (ks : List Client) (c : ℕ) (bytes : List ℕ) : Type 0 where
  pub before : List Client
  pub client : Client
  pub behind : List Client
  pub there : ks ≡ before ++ client ∷ behind
  pub conn : client.conn ≡ c
  pub alone : list_any (λ k. nat_eq k.conn c) (before ++ behind) ≡ false
  pub here : client.gone ≡ false
  pub going : client.stopped ≡ false
  pub bytes_are : AreNext client bytes
  pub some : 0 < length bytes
  pub rested : list_any is_restless before ≡ false

-- a closing: its client is there and over, and all sends are done
pub record IsClosed (ks : List Client) (c : ℕ) : Type 0 where
  pub there : list_any (λ k. nat_eq k.conn c) ks ≡ true
  pub over : list_any (λ k. nat_eq k.conn c && not (is_over k)) ks ≡ false
  pub rested : list_any is_restless ks ≡ false

-- a master is given, no link is open, and it is time
abbrev pub is_due : World → Bool
is_due w = is_replica w.is && (w.due && not (list_any (λ k. is_link k.role) w.there))

-- its address
abbrev pub IsMaster : Option (List ℕ × ℕ) → List ℕ → ℕ → Type 0
IsMaster None host port = ⊥
IsMaster (Some a) host port = a ≡ (host, port)

-- an event is asked for
pub record IsAsked (w : World) (paused : List ℕ) (busy : Bool) : Type 0 where
  pub rested : IsRested w
  pub pauses : paused ≡ should_pause w
  pub busily : busy ≡ is_some_waiting w
  pub running : w.shut ≡ false
  pub dialled_by : is_due w ≡ false

-- the master is dialled exactly where that is due, in front of an event; an event is asked for with those that wait paused, busily where there are any; then come the sends, in ascending number, and the closings
abbrev pub AsksRight : World → Entry → Type 0
AsksRight w (Open at) = Unit {0}
AsksRight w (Dial host port answer) = IsRested w × IsMaster w.is.master host port × (is_due w ≡ true)
AsksRight w (Event paused busy ev bytes) = IsAsked w paused busy
AsksRight w (Send c bytes answer) = IsOffered w.there c bytes
AsksRight w (Close c) = IsClosed w.there c

abbrev pub AllAsked : World → List Entry → Type 0
AllAsked w [] = Unit {0}
AllAsked w (e ∷ es) = AsksRight w e × AllAsked (happens w e) es

-- ---- what a wire may give

-- a new number is above all that were given
abbrev pub IsAbove : ℕ → Ev → Type 0
IsAbove given (Opened c) = given ≤ c
IsAbove given (Read c n) = Unit {0}
IsAbove given (Ended c) = Unit {0}
IsAbove given Quiet = Unit {0}
IsAbove given Shut = Unit {0}

-- what came is bytes, and no more events are to come only where nothing waits
pub record Comes (given : ℕ) (busy : Bool) (ev : Ev) (bytes : List ℕ) : Type 0 where
  pub are_bytes : IsBytes bytes
  pub last : ev ≡ Shut → busy ≡ false
  pub above : IsAbove given ev

abbrev pub Came : World → Entry → Type 0
Came w (Open at) = Unit {0}
Came w (Dial host port answer) = MayDial w.given answer
Came w (Event paused busy ev bytes) = Comes w.given busy ev bytes
Came w (Send c bytes answer) = Unit {0}
Came w (Close c) = Unit {0}

abbrev pub AllCame : World → List Entry → Type 0
AllCame w [] = Unit {0}
AllCame w (e ∷ es) = Came w e × AllCame (happens w e) es

-- ---- one turn

-- a send to one of these, or a closing of one
abbrev pub SendsTo : List ℕ → Entry → Type 0
SendsTo conns (Open at) = ⊥
SendsTo conns (Dial host port answer) = ⊥
SendsTo conns (Event paused busy ev bytes) = ⊥
SendsTo conns (Send c bytes answer) = list_any (nat_eq c) conns ≡ true
SendsTo conns (Close c) = ⊥

abbrev pub ClosesOne : List ℕ → Entry → Type 0
ClosesOne conns (Open at) = ⊥
ClosesOne conns (Dial host port answer) = ⊥
ClosesOne conns (Event paused busy ev bytes) = ⊥
ClosesOne conns (Send c bytes answer) = ⊥
ClosesOne conns (Close c) = list_any (nat_eq c) conns ≡ true

abbrev pub AllOf : (Entry → Type 0) → List Entry → Type 0
AllOf P [] = Unit {0}
AllOf P (e ∷ es) = P e × AllOf P es

-- sends, and then closings, of these
pub record AreFinishing (conns : List ℕ) (es : List Entry) : Type 0 where
  pub sends : List Entry
  pub closings : List Entry
  pub parts : es ≡ sends ++ closings
  pub are_sends : AllOf (SendsTo conns) sends
  pub are_closings : AllOf (ClosesOne conns) closings

-- whether the round of a turn has anything to commit
abbrev pub commits_in : World → List Entry → Bool
commits_in w [] = false
commits_in w (Open at ∷ es) = false
commits_in w (Dial host port answer ∷ es) = commits_in (dialled w answer) es
commits_in w (Event paused busy ev bytes ∷ es) = commits_of (rounded w ev bytes)
commits_in w (Send c bytes answer ∷ es) = false
commits_in w (Close c ∷ es) = false

-- and the labels of its copies
abbrev pub labels_in : World → List Entry → List (List ℕ)
labels_in w [] = []
labels_in w (Open at ∷ es) = []
labels_in w (Dial host port answer ∷ es) = labels_in (dialled w answer) es
labels_in w (Event paused busy ev bytes ∷ es) = (rounded w ev bytes).round.made.labels
labels_in w (Send c bytes answer ∷ es) = []
labels_in w (Close c ∷ es) = []
