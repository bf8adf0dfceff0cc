-- At the end nothing is left unserved, and all that is owed was sent.
use Rattle.std.proofs.Common.{◌≡◌, ◌≤◌, ℕ, Bool, true, false, cond, not, List, [], ◌∷◌, ◌++◌, length, take, map, refl, sym, ap, subst, ◌∙◌, arith, length-append}
use Rattle.std.specs.Prelude.{Ok, Err, nat_eq, ◌&&◌, ◌||◌}
use Rattle.std.specs.List.{filter, list_any}
use Rattle.std.proofs.lemmas.Bool.{eqb-true, or_parts, and_parts}
use Rattle.tc_base.specs.Reading.{Front}
use Rattle.tc_io.specs.declared.wire.At.{At}
use Rattle.tc_io.specs.declared.wire.Dialled.{Dialled}
use Rattle.tc_io.specs.declared.wire.Dialled.TheVariants.{Conn, NotNow}
use Rattle.tc_io.specs.declared.wire.Ev.{Ev}
use Rattle.tc_io.specs.declared.wire.Ev.TheVariants.{Opened, Read, Ended, Quiet, Shut}
use Rattle.tc_io.specs.declared.wire.Sent.{Sent}
use Rattle.tc_io.specs.declared.wire.Sent.TheVariants.{Took, NotYet, Gone}
use Rattle.tc_io.specs.declared.wire.Entry.{Entry}
use Rattle.tc_io.specs.declared.wire.Entry.TheVariants.{Open, Dial, Event, Send, Close}
use Rattle.tc_model.specs.Contents.{Contents, Walk}
use Rattle.ty_memc.specs.declared.text.Piece.{Piece}
use Rattle.ty_memc.specs.Grammar.{piece_at, Spells}
use Rattle.ty_memc.proofs.PieceGrammar.{pieces}
use Rattle.ty_ulog.specs.declared.record.Record.{Record}
use Rattle.ty_ulog.specs.Log.{last_of}
use Rattle.ty_wire.specs.Reading.{request_at}
use Rattle.ty_world.specs.Clients.{Client, Role, of_client, of_feed, to_master, is_client, is_fed, is_link, whole_in, bad_in, all_sent, has_whole, has_bad, waits, is_over}
use Rattle.ty_world.specs.Frames.{is_whole, is_bad, HasNone}
use Rattle.ty_world.specs.Links.{Looked, look_at, look_next, look_all, unmoved}
use Rattle.ty_world.specs.Logs.{Settings, is_replica}
use Rattle.ty_world.specs.Rounds.{Round, round_one, round_all, look_of, fed, fed_by, feed_all}
use Rattle.ty_world.specs.World.{World, Mark, started, unstopped, at_conn, new_link, with_dialled, sent, happens, world_after, Comes, AllCame, AllAsked, is_some_waiting}
use Rattle.ty_world.proofs.Extra.{EachEmpty, all_empty, one_still}

-- nothing is left: as much was sent as is owed, and no whole piece stands there
pub record IsDone (k : Client) : Type 0 where
  pub even : length k.owed ≤ length k.out
  pub none : has_whole k ≡ false

-- of all clients but those whose peer is gone
abbrev pub EachDone : List Client → Type 0
EachDone [] = Unit {0}
EachDone (k ∷ ks) = (k.gone ≡ false → is_client k.role ≡ true → IsDone k) × EachDone ks

-- and but for those above 64
abbrev IsServed : Client → Type 0
IsServed k = k.gone ≡ false → k.extra ≡ false → is_client k.role ≡ true → IsDone k

abbrev EachServed : List Client → Type 0
EachServed [] = Unit {0}
EachServed (k ∷ ks) = IsServed k × EachServed ks

not_no : (b : Bool) → not b ≡ false → b ≡ true
not_no true e = refl
not_no false e = absurd cc

all_even : (k : Client) → all_sent k ≡ true → length k.owed ≤ length k.out
all_even k e = (let s = eqb-true (length k.out) (length k.owed) e in omega (arith, s))

-- ---- what a client's role says

not_link : (r : Role) (s : Bool) → is_client r ≡ true → (is_link r || s) ≡ true → s ≡ true
not_link of_client s e f = f
not_link (of_feed above base) s e f = absurd cc
not_link (to_master named broken) s e f = absurd cc

not_fed : (r : Role) (s : Bool) → is_client r ≡ true → (not (is_fed r) && not s) ≡ false → s ≡ true
not_fed of_client s e f = not_no s f
not_fed (of_feed above base) s e f = absurd cc
not_fed (to_master named broken) s e f = absurd cc

bad_none : (r : Role) (u : List ℕ) → is_client r ≡ true → bad_in r u ≡ true → whole_in r u ≡ false
bad_none of_client u e b = go (piece_at u) b
  where
    go : (f : Front Piece) → is_bad f ≡ true → is_whole f ≡ false
    go (Ok x) b = absurd cc
    go (Err d) b = refl
bad_none (of_feed above base) u e b = absurd cc
bad_none (to_master named broken) u e b = absurd cc

-- what doesn't wait is done
idle_done : (k : Client) → waits k ≡ false → is_client k.role ≡ true → IsDone k
idle_done k e client =
    let o = or_parts (not (is_fed k.role) && not (all_sent k)) (has_whole k) e in
    record { even = all_even k (not_fed k.role (all_sent k) client o.0); none = o.1 }

-- what is over is done
over_done : (k : Client) → is_over k ≡ true → IsServed k
over_done k e here plain client =
    let both = and_parts (is_link k.role || all_sent k) (has_bad k || (k.ended && not (has_whole k))) (third k.gone k.extra _ e here plain) in
    record { even = all_even k (not_link k.role (all_sent k) client both.0); none = last (has_bad k) k.ended (has_whole k) (bad_none k.role k.unread client) both.1 }
  where
    third : (g x b : Bool) → (g || (x || b)) ≡ true → g ≡ false → x ≡ false → b ≡ true
    third true x b e f h = absurd cc
    third false true b e f h = absurd cc
    third false false b e f h = e

    last : (b en w : Bool) → (b ≡ true → w ≡ false) → (b || (en && not w)) ≡ true → w ≡ false
    last true en w h e = h refl
    last false true true h e = absurd cc
    last false true false h e = refl
    last false false w h e = absurd cc

-- ---- lists

done_more : (ks ls : List Client) → EachServed ks → EachServed ls → EachServed (ks ++ ls)
done_more [] ls h g = g
done_more (k ∷ ks) ls h g = (h.0, done_more ks ls h.1 g)

abbrev KeepsServed : (Client → Client) → Type 0
KeepsServed f = (k : Client) → IsServed k → IsServed (f k)

done_map : (f : Client → Client) → KeepsServed f → (ks : List Client) → EachServed ks → EachServed (map f ks)
done_map f g [] h = tt
done_map f g (k ∷ ks) h = (g k h.0, done_map f g ks h.1)

done_filter : (p : Client → Bool) (ks : List Client) → EachServed ks → EachServed (filter p ks)
done_filter p [] h = tt
done_filter p (k ∷ ks) h = go (p k) (done_filter p ks h.1)
  where
    go : (b : Bool) → EachServed (filter p ks) → EachServed (cond b (k ∷ filter p ks) (filter p ks))
    go true r = (h.0, r)
    go false r = r

-- those closed are over
closed_done : (p : Client → Bool) (ks : List Client) → list_any (λ k. p k && not (is_over k)) ks ≡ false → EachServed (filter p ks)
closed_done p [] e = tt
closed_done p (k ∷ ks) e = (let both = or_parts (p k && not (is_over k)) (list_any (λ l. p l && not (is_over l)) ks) e in go (p k) both.0 (closed_done p ks both.1))
  where
    go : (b : Bool) → (b && not (is_over k)) ≡ false → EachServed (filter p ks) → EachServed (cond b (k ∷ filter p ks) (filter p ks))
    go true is r = (over_done k (not_no (is_over k) is), r)
    go false is r = r

at_done : (c : ℕ) (f : Client → Client) → KeepsServed f → KeepsServed (at_conn c f)
at_done c f g k h = go (nat_eq k.conn c)
  where
    go : (b : Bool) → IsServed (cond b (f k) k)
    go true = g k h
    go false = h

sent_done : (bytes : List ℕ) (answer : Sent) → KeepsServed (sent bytes answer)
sent_done bytes (Took n) k h here plain client = let d = h here plain client in record { even = (let l = length-append k.out (take n bytes) in let e = d.even in omega (arith, l, e)); none = d.none }
sent_done bytes NotYet k h here plain client = let d = h here plain client in record { even = d.even; none = d.none }
sent_done bytes Gone k h here plain client = absurd cc

-- ---- a round in which nothing waits

round_done : (is : Settings) (c : Contents) (w : Walk) (ks : List Client) → list_any waits ks ≡ false → EachServed (round_all is c w (map unstopped ks)).clients
round_done is c w [] e = tt
round_done is c w (k ∷ ks) e =
    let o = or_parts (waits k) (list_any waits ks) e in
    let whole = or_parts (not (is_fed k.role) && not (all_sent k)) (has_whole k) o.0 in
    let still = one_still is c w (unstopped k) whole.1 in
    let one = (round_one is c w (unstopped k)).made in
    (subst IsServed (sym still) (λ here plain client. let d = idle_done k o.0 client in record { even = d.even; none = d.none }), round_done is one.contents one.walk ks o.1)

look_done : (own held : ℕ) (c : Contents) (w : Walk) (ks : List Client) → EachServed ks → EachServed (look_all own held c w ks).clients
unfolding look_at
look_done own held c w [] h = tt
look_done own held c w (k ∷ ks) h = go k.role (look_done own held c w ks h.1)
  where
    go : (r : Role) → EachServed (look_all own held c w ks).clients → EachServed (look_next own held c w r k ks (look_all own held c w ks)).clients
    go of_client rest = (h.0, rest)
    go (of_feed above base) rest = (h.0, rest)
    go (to_master named broken) rest = (λ here plain client. absurd cc, h.1)

look_of_done : (is : Settings) (log : List Record) (r : Round) → EachServed r.clients → EachServed (look_of is log r).clients
look_of_done is log r h = go (is_replica is)
  where
    go : (b : Bool) → EachServed (cond {A = Looked} b (look_all is.own (last_of 0 log) r.made.contents r.made.walk r.clients) (record { dealt_is = unmoved r.made.contents r.made.walk false; clients = r.clients })).clients
    go true = look_done is.own (last_of 0 log) r.made.contents r.made.walk r.clients h
    go false = h

fed_done : (log : List Record) → KeepsServed (fed log)
fed_done log k h = go k.role refl
  where
    go : (r : Role) → k.role ≡ r → IsServed (fed_by log r k)
    go of_client e = h
    go (of_feed stamp base) e = λ here plain client. absurd (let n : false ≡ true = ap is_client (sym e) ∙ client in cc)
    go (to_master named broken) e = h

feed_done : (is : Settings) (log : List Record) (ks : List Client) → EachServed ks → EachServed (feed_all is log ks)
feed_done is log ks h = go is.logs
  where
    go : (b : Bool) → EachServed (cond b (map (fed log) ks) ks)
    go true = done_map (fed log) (fed_done log) ks h
    go false = h

-- ---- entries

record IsLeft (w : World) : Type 0 where
  past : EachServed w.past
  there : w.shut ≡ true → EachServed w.there

event_left : (w : World) (paused : List ℕ) (busy : Bool) (ev : Ev) (bytes : List ℕ) → w.shut ≡ false → busy ≡ is_some_waiting w → Comes w.given busy ev bytes → IsLeft w → IsLeft (happens w (Event paused busy ev bytes))
event_left w paused busy (Opened c) bytes on is came h = record { past = h.past; there = λ e. absurd cc }
event_left w paused busy (Read c n) bytes on is came h = record { past = h.past; there = λ e. absurd cc }
event_left w paused busy (Ended c) bytes on is came h = record { past = h.past; there = λ e. absurd cc }
event_left w paused busy Quiet bytes on is came h = record { past = h.past; there = λ e. absurd cc }
event_left w paused busy Shut bytes on is came h =
    let v = happens w (Event paused busy Shut bytes) in
    let r = round_all w.is w.contents w.walk (map unstopped w.there) in
    record {
      past = h.past;
      there = λ e. feed_done w.is v.records (look_of w.is w.records r).clients (look_of_done w.is w.records r (round_done w.is w.contents w.walk w.there (sym is ∙ came.last refl)));
    }

dialled_done : (is : Settings) (log : List Record) (ks : List Client) (answer : Dialled) → EachServed ks → EachServed (with_dialled is log ks answer)
dialled_done is log ks (Conn c) h = done_more ks (new_link is log c ∷ []) h (λ here plain client. absurd cc, tt)
dialled_done is log ks NotNow h = h

lefts : (es : List Entry) (w : World) → AllAsked w es → AllCame w es → IsLeft w → IsLeft (world_after es w)
lefts [] w asked came h = h
lefts (Open at ∷ es) w asked came h = lefts es (happens w (Open at)) asked.1 came.1 (record { past = h.past; there = h.there })
lefts (Dial host port answer ∷ es) w asked came h = lefts es (happens w (Dial host port answer)) asked.1 came.1 (record { past = h.past; there = λ e. dialled_done w.is w.records w.there answer (h.there e) })
lefts (Event paused busy ev bytes ∷ es) w asked came h = lefts es (happens w (Event paused busy ev bytes)) asked.1 came.1 (event_left w paused busy ev bytes asked.0.running asked.0.busily came.0 h)
lefts (Send c bytes answer ∷ es) w asked came h = lefts es (happens w (Send c bytes answer)) asked.1 came.1 (record { past = h.past; there = λ e. done_map (at_conn c (sent bytes answer)) (at_done c (sent bytes answer) (sent_done bytes answer)) w.there (h.there e) })
lefts (Close c ∷ es) w asked came h = lefts es (happens w (Close c)) asked.1 came.1 (record { past = done_more w.past _ h.past (closed_done (λ k. nat_eq k.conn c) w.there asked.0.over); there = λ e. done_filter _ w.there (h.there e) })

-- those above 64 have nothing to be done
all_served : (ks : List Client) → EachServed ks → EachEmpty ks → EachDone ks
unfolding piece_at request_at
all_served [] h e = tt
all_served (k ∷ ks) h e = (go k.extra refl, all_served ks h.1 e.1)
  where
    go : (b : Bool) → k.extra ≡ b → k.gone ≡ false → is_client k.role ≡ true → IsDone k
    go false is here client = h.0 here is client
    go true is here client =
        let n = e.0 is in
        record { even = omega (arith, ap length n.owed); none = ap (λ (r : Role). whole_in r k.unread) n.role ∙ ap (λ (l : List ℕ). is_whole (piece_at l)) n.unread }

-- where no event will come any more, nothing is left of any client
pub all_done : (es : List Entry) (is : Settings) (ticks : List ℕ) (opens : List At) (m : Mark) → AllAsked (started is ticks opens m) es → AllCame (started is ticks opens m) es → (world_after es (started is ticks opens m)).shut ≡ true → EachDone (world_after es (started is ticks opens m)).there × EachDone (world_after es (started is ticks opens m)).past
all_done es is ticks opens m asked came shut =
    let w = started is ticks opens m in
    let h = lefts es w asked came (record { past = tt; there = λ e. tt }) in
    let n = all_empty es w asked tt tt in
    (all_served _ (h.there shut) n.0, all_served _ h.past n.1)

-- in the grammar's words
has_none : (bytes : List ℕ) → is_whole (piece_at bytes) ≡ false → HasNone Spells bytes
has_none bytes e x text rest s is = let w = ap piece_at is ∙ pieces.again x text rest s in absurd cc

pub none_of : (k : Client) → is_client k.role ≡ true → has_whole k ≡ false → HasNone Spells k.unread
none_of k client e = go k.role client e
  where
    go : (r : Role) → is_client r ≡ true → whole_in r k.unread ≡ false → HasNone Spells k.unread
    go of_client client e = has_none k.unread e
    go (of_feed above base) client e = absurd cc
    go (to_master named broken) client e = absurd cc
