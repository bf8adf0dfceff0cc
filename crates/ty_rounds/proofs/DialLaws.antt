-- The master is dialled, or isn't due.
use Rattle.std.proofs.Common.{◌≡◌, ◌≤◌, ◌<◌, ◌+◌, ◌⊎◌, inl, inr, ℕ, Bool, true, false, List, [], ◌∷◌, ◌++◌, length, refl, sym, ap, subst, ◌∙◌, append_assoc, arith}
use Rattle.std.specs.Prelude.{◌&&◌, ◌||◌, not, nat_eq, is_some, option_map, Option, Some, None, Result, Ok, Err, OnOk}
use Rattle.std.specs.Int.{w32, to_be_bytes}
use Rattle.std.specs.List.{list_any}
use Rattle.std.proofs.lemmas.List.{append-nil}
use Rattle.std.proofs.lemmas.Bool.{or_parts}
use Rattle.tc_base.specs.declared.request.Request.TheVariants.{Repl}
use Rattle.tc_io.specs.Lines.{IsUnopened, MayDial, given_dialled, open_dialled}
use Rattle.tc_io.specs.Script.{Plays}
use Rattle.tc_io.specs.Told.{Adds}
use Rattle.tc_io.specs.declared.wire.Entry.TheVariants.{Dial}
use Rattle.tc_io.specs.declared.wire.Wire as wire
use Rattle.tc_io.specs.declared.wire.Dialled.{Dialled}
use Rattle.tc_io.specs.declared.wire.Dialled.TheVariants.{Conn, NotNow}
use Rattle.ty_core.specs.Queues.{Queue, queue}
use Rattle.ty_wire.specs.Form.{long_bytes}
use Rattle.ty_wire.specs.Spelling.{spelling}
use Rattle.ty_world.specs.Logs.{Settings, is_replica}
use Rattle.ty_world.specs.Clients.{is_link}
use Rattle.ty_world.specs.Answers.{AllFine}
use Rattle.ty_world.specs.World.{Client, World, new_link, is_due, is_over, is_restless, all_sent, IsMaster, IsRested, world_after}
use Rattle.ty_rounds.specs.Books.{Book, IsBook, address, held, settings_of}
use Rattle.ty_rounds.specs.Dialling.{AddsLink, AsksRecords, DialFailed, DialledTo, IsLinked}
use Rattle.ty_rounds.specs.Holding.{AreApart, Holds, AllHold, PlaysAs, Wired, coming, book_of}
use Rattle.ty_rounds.specs.Peers.{all_taken, bad_of, has_link, is_called, is_over as is_done, numbers, whole_of}
use Rattle.ty_rounds.specs.Ready.{FewUnread, FewWaiting, IsCalm, IsIntroduced, KnowsHeld, LinksKnow, StayFew, most_unread, most_waiting, unread_of}
use Rattle.ty_rounds.specs.declared.logging.Logged.{Logged}
use Rattle.ty_rounds.specs.declared.logging.Master.{Master}
use Rattle.ty_rounds.specs.Turns.{Call, entries_of, Called, Dials, DialsTo}
use Rattle.ty_rounds.specs.declared.peer.Peer.{Peer}
use Rattle.ty_rounds.specs.declared.peer.Role.{Role as PeerRole}
use Rattle.ty_rounds.specs.declared.peer.Role.TheVariants as peer
use Rattle.ty_slave.specs.Lines.{Line}
use Rattle.ty_rounds.proofs.Few.{each_push, few_refl}
use Rattle.ty_rounds.proofs.Hearing.{apart_more, more_hold, numbers_push}
use Rattle.ty_rounds.proofs.Links.{one_more}
use Rattle.ty_rounds.proofs.Telling.{Adds-none, Plays-none}
use Rattle.ty_rounds.proofs.Waiting.{role_is}

same_world : (w : World) → Called w w
same_world w = record { is_same = refl; contents = refl; walk = refl; log = refl; records = refl; ticks = refl; marks = refl; copies = refl; looked = refl; past = refl; gaps = refl; shut = refl; events = refl; opens = refl }

-- nothing is due
none_dialled : (ps : List Peer) (w : World) → AllHold (book_of w) ps w.there → IsRested w → is_due w ≡ false → DialsTo ps w w []
none_dialled ps w h rested none = record { same = same_world w; asked = tt; came = tt; each = h; rested = rested; done = none }

not_due : (a b : Bool) → (a && (false && b)) ≡ false
not_due true b = refl
not_due false b = refl

abbrev dialled_by : List ℕ → ℕ → Dialled → Call
dialled_by host port answer = record { host = host; port = port; answer = answer }

-- there is no connection for now
dialled_none : (host : List ℕ) (port : ℕ) (ps : List Peer) (w : World) → w.is.master ≡ Some (host, port) → is_due w ≡ true → AllHold (book_of w) ps w.there → IsRested w
    → DialsTo ps w (world_after (entries_of (dialled_by host port NotNow ∷ [])) w) (entries_of (dialled_by host port NotNow ∷ []))
dialled_none host port ps w master due h rested = record {
  same = record { is_same = refl; contents = refl; walk = refl; log = refl; records = refl; ticks = refl; marks = refl; copies = refl; looked = refl; past = refl; gaps = refl; shut = refl; events = refl; opens = refl };
  asked = ((rested, subst (λ (o : Option (List ℕ × ℕ)). IsMaster o host port) (sym master) refl, due), tt);
  came = (tt, tt);
  each = h;
  rested = rested;
  done = not_due (is_replica w.is) true;
}

caller_holds : (c : ℕ) (l : Logged) (p : Peer) (b : Book) → IsLinked c l p → b.is ≡ settings_of (Some l) → l.ulog.last ≡ held b → Holds b p (new_link b.is b.records c)
caller_holds c l p b q is last =
    let own : l.own ≡ b.is.own = sym (ap (λ (s : Settings). s.own) is) in
    record {
      conn = sym q.conn_is;
      plays = subst (λ (r : PeerRole). PlaysAs b r p.session.unread (new_link b.is b.records c)) (sym q.role_is) (record { role_is = refl; unread_is = refl; own_is = own; held_is = last });
      owed = (λ i. spelling (Repl (sym last i) (sym own i))) ∙ sym (append-nil (spelling (Repl l.ulog.last l.own))) ∙ ap (λ (s : Queue). s.waiting ++ []) (sym q.session_is) ∙ ap (λ (r : PeerRole). p.session.waiting ++ coming b r) (sym q.role_is);
      gone = sym q.here;
      ended = sym q.goes_on;
      extra = sym q.is_link;
    }

none_more : {A : Type 0} (f : A → Bool) (ks : List A) (k : A) → list_any f ks ≡ false → f k ≡ false → list_any f (ks ++ k ∷ []) ≡ false
none_more f [] k e one = go (f k) one
  where
    go : (b : Bool) → b ≡ false → (b || false) ≡ false
    go false e = refl
    go true e = absurd cc
none_more f (j ∷ ks) k e one = go (f j) (none_more f ks k (or_parts (f j) (list_any f ks) e).1 one) (or_parts (f j) (list_any f ks) e).0
  where
    go : (b : Bool) → list_any f (ks ++ k ∷ []) ≡ false → b ≡ false → (b || list_any f (ks ++ k ∷ [])) ≡ false
    go false r e = r
    go true r e = absurd cc

not_restless : (a : Bool) → not (a || true) ≡ false
not_restless true = refl
not_restless false = refl

fine_more : (ks : List Client) (k : Client) → AllFine ks → (rest : List ℕ) × (k.owed ≡ k.out ++ rest) → AllFine (ks ++ k ∷ [])
fine_more [] k fine one = (one, tt)
fine_more (j ∷ ks) k fine one = (fine.0, fine_more ks k fine.1 one)

-- a connection to the master is open
opened : (host : List ℕ) (port c : ℕ) (w : World) → w.is.master ≡ Some (host, port) → is_due w ≡ true → MayDial w.given (Conn c) → IsRested w → DialledTo w (world_after (entries_of (dialled_by host port (Conn c) ∷ [])) w) (entries_of (dialled_by host port (Conn c) ∷ []))
opened host port c w master due may rested = record {
  same = record { is_same = refl; contents = refl; walk = refl; log = refl; records = refl; ticks = refl; marks = refl; copies = refl; looked = refl; past = refl; gaps = refl; shut = refl; events = refl; opens = refl };
  asked = ((rested, subst (λ (o : Option (List ℕ × ℕ)). IsMaster o host port) (sym master) refl, due), tt);
  came = (may, tt);
  fine = λ f. (fine_more w.there (new_link w.is w.records c) f.0 ((new_link w.is w.records c).owed, refl), f.1);
}

-- and it is the server's link
dialled_open : (host : List ℕ) (port c : ℕ) (l : Logged) (ps : List Peer) (p : Peer) (w : World) → IsBook (Some l) (book_of w) w.log → IsLinked c l p → w.is.master ≡ Some (host, port) → is_due w ≡ true → MayDial w.given (Conn c) → AllHold (book_of w) ps w.there → IsRested w
    → DialsTo (ps ++ p ∷ []) w (world_after (entries_of (dialled_by host port (Conn c) ∷ [])) w) (entries_of (dialled_by host port (Conn c) ∷ []))
dialled_open host port c l ps p w book q master due may h rested = let d = opened host port c w master due may rested in record {
  same = d.same;
  asked = d.asked;
  came = d.came;
  each = more_hold (book_of w) ps w.there p (new_link w.is w.records c) h (caller_holds c l p (book_of w) q book.is_same book.holds.last_is);
  rested = (none_more is_restless w.there (new_link w.is w.records c) rested.0 (not_restless (all_sent (new_link w.is w.records c))), none_more is_over w.there (new_link w.is w.records c) rested.1 refl);
  done = not_due (is_replica w.is) true;
}

-- ---- what a dial does to the server

-- a link that is there is one of the world
link_there : (b : Book) (ps : List Peer) (ks : List Client) → AllHold b ps ks → list_any (λ (k : Client). is_link k.role) ks ≡ has_link ps
link_there b [] [] h = refl
link_there b [] (k ∷ ks) h = absurd h
link_there b (p ∷ ps) [] h = absurd h
link_there b (p ∷ ps) (k ∷ ks) h = λ i. (role_is b p k h.0).link i || link_there b ps ks h.1 i

-- why no dial is due
pub data NotDue (l : Option Logged) (due : Bool) (ps : List Peer) : Type 0 where
  unlogged : l ≡ None → NotDue l due ps
  unled : (x : Logged) → l ≡ Some x → x.master ≡ None → NotDue l due ps
  not_yet : due ≡ false → NotDue l due ps
  linked : has_link ps ≡ true → NotDue l due ps

none_due : (l : Option Logged) (due : Bool) (ps : List Peer) → NotDue l due ps → (w : World) → IsBook l (book_of w) w.log → w.due ≡ due → AllHold (book_of w) ps w.there → is_due w ≡ false
none_due l due ps why w book same each = go why
  where
    never : (a b : Bool) → (a && (b && false)) ≡ false
    never true true = refl
    never true false = refl
    never false b = refl

    go : NotDue l due ps → is_due w ≡ false
    go (unlogged is) = ap (λ (set : Settings). is_replica set && (w.due && not (list_any (λ (k : Client). is_link k.role) w.there))) (book.is_same ∙ ap settings_of is)
    go (unled x is none) = ap (λ (set : Settings). is_replica set && (w.due && not (list_any (λ (k : Client). is_link k.role) w.there))) (book.is_same ∙ ap settings_of is) ∙ ap (λ (m : Option Master). is_some (option_map address m) && (w.due && not (list_any (λ (k : Client). is_link k.role) w.there))) none
    go (not_yet is) = ap (λ (d : Bool). is_replica w.is && (d && not (list_any (λ (k : Client). is_link k.role) w.there))) (same ∙ is) ∙ not_due (is_replica w.is) (not (list_any (λ (k : Client). is_link k.role) w.there))
    go (linked is) = ap (λ (d : Bool). is_replica w.is && (w.due && not d)) (link_there (book_of w) ps w.there each ∙ is) ∙ never (is_replica w.is) w.due

-- and it is due
is_time : (x : Logged) (at : Master) (ps : List Peer) → x.master ≡ Some at → has_link ps ≡ false → (w : World) → IsBook (Some x) (book_of w) w.log → w.due ≡ true → AllHold (book_of w) ps w.there → is_due w ≡ true
is_time x at ps led none w book same each =
    ap (λ (set : Settings). is_replica set && (w.due && not (list_any (λ (k : Client). is_link k.role) w.there))) book.is_same
    ∙ (λ i. is_some (option_map address (led i)) && (same i && not ((link_there (book_of w) ps w.there each ∙ none) i)))

-- the words' master is the one of the world
master_is : (l : Logged) (at : Master) → l.master ≡ Some at → IsMaster (settings_of (Some l)).master at.host at.port
master_is l at led = subst (λ (m : Option Master). IsMaster (option_map address m) at.host at.port) (sym led) refl

led_world : (l : Logged) (at : Master) → l.master ≡ Some at → (w : World) → IsBook (Some l) (book_of w) w.log → w.is.master ≡ Some (at.host, at.port)
led_world l at led w book = ap (λ (set : Settings). set.master) book.is_same ∙ ap (λ (m : Option Master). option_map address m) led

-- ---- the link

-- its request, of which the parts came one behind the other
asked_so : (old a b new : Queue) (above own : ℕ) → a ≡ queue old.unread (old.waiting ++ 0xC8 ∷ 0xA0 ∷ []) → b ≡ queue a.unread (a.waiting ++ long_bytes above) → new ≡ queue b.unread (b.waiting ++ to_be_bytes w32 own) → AsksRecords above own old new
unfolding spelling
asked_so old a b new above own first long last =
    last
    ∙ ap (λ (q : Queue). queue q.unread (q.waiting ++ to_be_bytes w32 own)) long
    ∙ ap (λ (q : Queue). queue q.unread ((q.waiting ++ long_bytes above) ++ to_be_bytes w32 own)) first
    ∙ ap (queue old.unread) (append_assoc (old.waiting ++ 0xC8 ∷ 0xA0 ∷ []) (long_bytes above) (to_be_bytes w32 own) ∙ append_assoc old.waiting (0xC8 ∷ 0xA0 ∷ []) (long_bytes above ++ to_be_bytes w32 own))

pub asked_last : {A E : Type 0} (r : Result A E) (old a b new : Queue) (above own : ℕ) (bytes : List ℕ) → a ≡ queue old.unread (old.waiting ++ 0xC8 ∷ 0xA0 ∷ []) → b ≡ queue a.unread (a.waiting ++ long_bytes above) → bytes ≡ to_be_bytes w32 own → OnOk r (new ≡ queue b.unread (b.waiting ++ bytes)) → OnOk r (AsksRecords above own old new)
asked_last (Ok x) old a b new above own bytes first long is last = asked_so old a b new above own first long (last ∙ ap (λ (l : List ℕ). queue b.unread (b.waiting ++ l)) is)
asked_last (Err e) old a b new above own bytes first long is last = tt

abbrev line_at : ℕ → ℕ → Line
line_at own last = record { own = own; held = last; named = false; unread = [] }

-- nothing came of it yet, and its request waits
pub linked_so : (conn : ℕ) (l : Logged) (last : ℕ) (link : Line) (old new : Queue) → last ≡ l.ulog.last → link ≡ record { own = l.own; held = last; named = false; unread = [] } → old ≡ queue [] [] → AsksRecords last l.own old new
    → IsLinked conn l (record { conn = conn; role = peer.Called (record { link = link; broken = false }); session = new; gone = false; ended = false; extra = false; stirs = true })
linked_so conn l last link old new held_is line none asks = record {
  conn_is = refl;
  role_is = λ i. peer.Called (record { link = (line ∙ ap (line_at l.own) held_is) i; broken = false });
  session_is = asks ∙ (λ i. queue ((none i).unread) ((none i).waiting ++ spelling (Repl (held_is i) l.own)));
  here = refl;
  goes_on = refl;
  is_link = refl;
  stirs_is = refl;
}

short_request : (above own : ℕ) → length (spelling (Repl above own)) ≤ 67108864
unfolding spelling
short_request above own = omega arith

link_stays : (c : ℕ) (l : Logged) (p : Peer) → IsLinked c l p → is_done p ≡ false
link_stays c l p q = λ i. q.here i || (q.is_link i || ((is_called (q.role_is i) || all_taken p) && (bad_of (q.role_is i) p.session.unread || (q.goes_on i && not (whole_of (q.role_is i) p.session.unread)))))

pub link_calm : (c : ℕ) (l : Logged) (p : Peer) → IsLinked c l p → IsCalm p
link_calm c l p q e = absurd (let f = q.stirs_is in cc)

none_unread : 0 ≤ 33558553
none_unread = omega arith

below_four : 0 < 4
below_four = omega arith

few_more : (c : ℕ) (l : Logged) (ps : List Peer) (p : Peer) → IsLinked c l p → StayFew ps (ps ++ p ∷ [])
few_more c l ps p q = record {
  unread = λ h. each_push FewUnread ps p (subst (λ (r : PeerRole). length (unread_of r p.session.unread) ≤ most_unread r) (sym q.role_is) none_unread) h;
  waiting = λ h. each_push FewWaiting ps p (subst (λ (r : PeerRole). length p.session.waiting ≤ most_waiting r) (sym q.role_is) (subst (λ (s : Queue). length s.waiting ≤ 67108864) (sym q.session_is) (short_request l.ulog.last l.own))) h;
}

know_more : (c : ℕ) (l : Logged) (at : Master) (ps : List Peer) (p : Peer) → l.master ≡ Some at → has_link ps ≡ false → IsLinked c l p → LinksKnow (Some l) ps → LinksKnow (Some l) (ps ++ p ∷ [])
know_more c l at ps p led none q h = (
  each_push (λ (z : Peer). KnowsHeld l.ulog.last z.role) ps p (subst (KnowsHeld l.ulog.last) (sym q.role_is) refl) h.0,
  ((λ unled. absurd (let e = sym led ∙ unled in cc)), one_more ps p none),
)

dialled_wired : (conns conns' : List ℕ) (ps ps' : List Peer) (p : Peer) (c : ℕ) → conns' ≡ conns ++ c ∷ [] → ps' ≡ ps ++ p ∷ [] → p.conn ≡ c → list_any (nat_eq c) conns ≡ false → Wired conns ps → Wired conns' ps'
dialled_wired conns conns' ps ps' p c is more named fresh w = record {
  same = is ∙ ap (λ (l : List ℕ). l ++ c ∷ []) w.same ∙ ap (λ (n : ℕ). numbers ps ++ n ∷ []) (sym named) ∙ sym (numbers_push ps p) ∙ ap numbers (sym more);
  apart = subst AreApart (sym is) (apart_more conns c w.apart fresh);
}

module _ {W : Type 0} (g : wire.Ghosts W) where
  pub dials_none : (l : Option Logged) (due : Bool) (x : W) (ps : List Peer) → NotDue l due ps → Dials g l due x x ps ps
  dials_none l due x ps why = record {
    calls = [];
    few = tt;
    to_master = tt;
    told = Adds-none (g.transcript x);
    plays = Plays-none (g.plays x);
    conns = refl;
    given = λ n le. le;
    ends = λ w book same each rested above. none_dialled ps w each rested (none_due l due ps why w book same each);
    stay = λ n. (n, few_refl ps);
    calm = λ h. h;
    links = λ h. h;
    introduced = λ h. h;
  }

  -- what a dial that was answered did
  pub record Answered (x y : W) (host : List ℕ) (port : ℕ) (answer : Dialled) : Type 0 where
    pub may : MayDial (g.given x) answer
    pub conns : g.conns y ≡ open_dialled (g.conns x) answer
    pub given : g.given y ≡ given_dialled (g.given x) answer
    pub told : Adds (g.transcript x) (g.transcript y) (Dial host port answer ∷ [])
    pub plays : Plays (g.plays x) (g.plays y) (Dial host port answer ∷ [])

  answered_so : (x y : W) (host at : List ℕ) (port : ℕ) (answer is : Dialled) → host ≡ at → answer ≡ is → Answered x y host port answer → Answered x y at port is
  answered_so x y host at port answer is same e a = subst (λ (z : Dialled). Answered x y at port z) e (subst (λ (h : List ℕ). Answered x y h port answer) same a)

  -- no connection for now
  pub dials_not_now : (l : Logged) (at : Master) (host : List ℕ) (answer : Dialled) (x y : W) (ps : List Peer) → l.master ≡ Some at → has_link ps ≡ false → host ≡ at.host → answer ≡ NotNow → Answered x y host at.port answer → Dials g (Some l) true x y ps ps
  dials_not_now l at host answer x y ps led none same e was = let a = answered_so x y host at.host at.port answer NotNow same e was in record {
    calls = dialled_by at.host at.port NotNow ∷ [];
    few = refl;
    to_master = (master_is l at led, tt);
    told = a.told;
    plays = a.plays;
    conns = a.conns;
    given = λ n le. omega (arith, le, a.given);
    ends = λ w book same each rested above. dialled_none at.host at.port ps w (led_world l at led w book) (is_time l at ps led none w book same each) each rested;
    stay = λ n. (n, few_refl ps);
    calm = λ h. h;
    links = λ h. h;
    introduced = λ h. h;
  }

  -- a link was opened, and came behind the others
  pub dials_open : (c : ℕ) (l : Logged) (at : Master) (host : List ℕ) (answer : Dialled) (x y : W) (ps ps' : List Peer) → l.master ≡ Some at → has_link ps ≡ false → host ≡ at.host → answer ≡ Conn c → Answered x y host at.port answer → AddsLink c l ps ps' → Dials g (Some l) true x y ps ps'
  dials_open c l at host answer x y ps ps' led none same e was adds = subst (Dials g (Some l) true x y ps) (sym adds.more) (record {
    calls = dialled_by at.host at.port (Conn c) ∷ [];
    few = refl;
    to_master = (master_is l at led, tt);
    told = a.told;
    plays = a.plays;
    conns = a.conns;
    given = λ n le. omega (arith, a.given);
    ends = λ w book same each rested above. dialled_open at.host at.port c l ps p w book q (led_world l at led w book) (is_time l at ps led none w book same each) (omega (arith, a.may, above)) each rested;
    stay = λ n. (none_more is_done ps p n (link_stays c l p q), few_more c l ps p q);
    calm = λ h. each_push IsCalm ps p (link_calm c l p q) h;
    links = λ h. know_more c l at ps p led none q h;
    introduced = λ h. each_push (λ (z : Peer). IsIntroduced z.role) ps p (subst IsIntroduced (sym q.role_is) (λ named unbroken. below_four)) h;
  })
    where
      p : Peer
      p = adds.link

      q : IsLinked c l p
      q = adds.linked

      a : Answered x y at.host at.port (Conn c)
      a = answered_so x y host at.host at.port answer (Conn c) same e was

  pub opens_wired : (c : ℕ) (l : Logged) (at : Master) (host : List ℕ) (answer : Dialled) (x y : W) (ps ps' : List Peer) → answer ≡ Conn c → IsUnopened (g.conns x) answer → Answered x y host at.port answer → AddsLink c l ps ps' → Wired (g.conns x) ps → Wired (g.conns y) ps'
  opens_wired c l at host answer x y ps ps' e fresh a adds w = dialled_wired (g.conns x) (g.conns y) ps ps' adds.link c (a.conns ∙ ap (open_dialled (g.conns x)) e) adds.more adds.linked.conn_is (subst (IsUnopened (g.conns x)) e fresh) w

  pub stays_wired : (answer : Dialled) (host : List ℕ) (port : ℕ) (x y : W) (ps : List Peer) → answer ≡ NotNow → Answered x y host port answer → Wired (g.conns x) ps → Wired (g.conns y) ps
  stays_wired answer host port x y ps e a w = subst (λ (cs : List ℕ). Wired cs ps) (sym (a.conns ∙ ap (open_dialled (g.conns x)) e)) w

  -- ---- a dial that failed

  -- it did, and there is no connection, where it was told at all
  pub failed_dial : (l : Logged) (at : Master) (host : List ℕ) (x y : W) (ps : List Peer) → l.master ≡ Some at → has_link ps ≡ false → host ≡ at.host → Adds (g.transcript x) (g.transcript y) [] ⊎ Adds (g.transcript x) (g.transcript y) (Dial host at.port NotNow ∷ []) → DialFailed g (Some l) true x y ps
  failed_dial l at host x y ps led none is (inl told) = record {
    calls = [];
    few = tt;
    to_master = tt;
    told = told;
    ends = λ w book same each rested above. record { same = same_world w; asked = tt; came = tt; fine = λ f. f };
  }
  failed_dial l at host x y ps led none is (inr told) = record {
    calls = dialled_by at.host at.port NotNow ∷ [];
    few = refl;
    to_master = (master_is l at led, tt);
    told = subst (λ (h : List ℕ). Adds (g.transcript x) (g.transcript y) (Dial h at.port NotNow ∷ [])) is told;
    ends = λ w book same each rested above. let d = dialled_none at.host at.port ps w (led_world l at led w book) (is_time l at ps led none w book same each) each rested in record { same = d.same; asked = d.asked; came = d.came; fine = λ f. f };
  }

  -- there was no memory to take the connection in
  pub failed_open : (c : ℕ) (l : Logged) (at : Master) (host : List ℕ) (answer : Dialled) (x y : W) (ps : List Peer) → l.master ≡ Some at → has_link ps ≡ false → host ≡ at.host → answer ≡ Conn c → Answered x y host at.port answer → DialFailed g (Some l) true x y ps
  failed_open c l at host answer x y ps led none same e was = let a = answered_so x y host at.host at.port answer (Conn c) same e was in record {
    calls = dialled_by at.host at.port (Conn c) ∷ [];
    few = refl;
    to_master = (master_is l at led, tt);
    told = a.told;
    ends = λ w book same each rested above. opened at.host at.port c w (led_world l at led w book) (is_time l at ps led none w book same each) (omega (arith, a.may, above)) rested;
  }
