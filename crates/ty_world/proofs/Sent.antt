-- Where a script takes all that is offered, all that is owed is sent by the end, or by the closing.
use Rattle.std.proofs.Common.{◌≡◌, ℕ, Bool, true, false, cond, not, List, [], ◌∷◌, ◌++◌, length, take, drop, map, refl, sym, ap, subst, ◌∙◌, append_assoc, arith, length-append}
use Rattle.std.specs.Prelude.{◌&&◌, ◌||◌, nat_eq}
use Rattle.std.specs.List.{filter, list_any}
use Rattle.std.proofs.lemmas.Bool.{eqb-true, or_parts}
use Rattle.std.proofs.lemmas.List.{append-nil}
use Rattle.tc_io.specs.declared.wire.At.{At}
use Rattle.tc_io.specs.declared.wire.Dialled.{Dialled}
use Rattle.tc_io.specs.declared.wire.Dialled.TheVariants.{Conn, NotNow}
use Rattle.tc_io.specs.declared.wire.Ev.{Ev}
use Rattle.tc_io.specs.declared.wire.Ev.TheVariants.{Opened, Read, Ended, Quiet, Shut}
use Rattle.tc_io.specs.declared.wire.Sent.{Sent}
use Rattle.tc_io.specs.declared.wire.Sent.TheVariants.{Took}
use Rattle.tc_io.specs.declared.wire.Entry.{Entry}
use Rattle.tc_io.specs.declared.wire.Entry.TheVariants.{Open, Dial, Event, Send, Close}
use Rattle.tc_io.specs.Script.{Script, AllAgree, played}
use Rattle.ty_ulog.specs.declared.record.Record.{Record}
use Rattle.ty_world.specs.Answers.{IsGoing, AllGoing, EachSent, AllSent}
use Rattle.ty_world.specs.Clients.{Client, all_sent, is_link, is_over, is_rested}
use Rattle.ty_world.specs.Logs.{Settings, is_replica}
use Rattle.ty_world.specs.Rounds.{round_all}
use Rattle.ty_world.specs.World.{World, Mark, IsRested, IsOffered, AreNext, started, unstopped, at_conn, new_link, with_dialled, heard_by, sent, rounded, added, happens, world_after, is_due, is_restless, AllAsked}
use Rattle.ty_world.proofs.Fine.{FineFed, AllFed, heard_fed, unstopped_fed, round_fed, look_of_fed, feed_fed, owed_same}
use Rattle.ty_world.proofs.Going.{all_going}

-- a connection is here, was sent a front of what it is owed, and one whose last send took not all is a link that wasn't offered anything yet
record SentSo (rs : List Record) (k : Client) : Type 0 where
  fed : FineFed rs k
  here : k.gone ≡ false
  fresh : k.stopped ≡ true → is_over k ≡ false

abbrev EachSo : List Record → List Client → Type 0
EachSo rs [] = Unit {0}
EachSo rs (k ∷ ks) = SentSo rs k × EachSo rs ks

abbrev EachEven : List Client → Type 0
EachEven [] = Unit {0}
EachEven (k ∷ ks) = (k.out ≡ k.owed) × EachEven ks

-- ---- lists

going_so : (rs : List Record) (ks : List Client) → AllFed rs ks → AllGoing ks → EachSo rs ks
going_so rs [] h g = tt
going_so rs (k ∷ ks) h g = (record { fed = h.0; here = g.0.here; fresh = λ e. absurd (let f : true ≡ false = sym e ∙ g.0.going in cc) }, going_so rs ks h.1 g.1)

so_fed : (rs : List Record) (ks : List Client) → EachSo rs ks → AllFed rs ks
so_fed rs [] h = tt
so_fed rs (k ∷ ks) h = (h.0.fed, so_fed rs ks h.1)

so_more : (rs : List Record) (ks : List Client) (k : Client) → EachSo rs ks → SentSo rs k → EachSo rs (ks ++ k ∷ [])
so_more rs [] k h one = (one, tt)
so_more rs (x ∷ ks) k h one = (h.0, so_more rs ks k h.1 one)

so_filter : (rs : List Record) (p : Client → Bool) (ks : List Client) → EachSo rs ks → EachSo rs (filter p ks)
so_filter rs p [] h = tt
so_filter rs p (k ∷ ks) h = go (p k) (so_filter rs p ks h.1)
  where
    go : (b : Bool) → EachSo rs (filter p ks) → EachSo rs (cond b (k ∷ filter p ks) (filter p ks))
    go true r = (h.0, r)
    go false r = r

going_filter : (p : Client → Bool) (ks : List Client) → AllGoing ks → AllGoing (filter p ks)
going_filter p [] h = tt
going_filter p (k ∷ ks) h = go (p k) (going_filter p ks h.1)
  where
    go : (b : Bool) → AllGoing (filter p ks) → AllGoing (cond b (k ∷ filter p ks) (filter p ks))
    go true r = (h.0, r)
    go false r = r

even_more : (ks ls : List Client) → EachEven ks → EachEven ls → EachEven (ks ++ ls)
even_more [] ls h g = g
even_more (k ∷ ks) ls h g = (h.0, even_more ks ls h.1 g)

even_sent : (ks : List Client) → EachEven ks → EachSent ks
even_sent [] h = tt
even_sent (k ∷ ks) h = (λ plain. h.0, even_sent ks h.1)

-- ---- as much was sent as is owed

none_behind : (out rest : List ℕ) → length out ≡ length (out ++ rest) → rest ≡ []
none_behind out [] e = refl
none_behind out (x ∷ rest) e = absurd (omega (arith, e, length-append out (x ∷ rest)))

sent_even : (rs : List Record) (k : Client) → FineFed rs k → all_sent k ≡ true → k.out ≡ k.owed
sent_even rs k h e =
    let long : length k.out ≡ length (k.out ++ h.fine.0) = eqb-true (length k.out) (length k.owed) e ∙ ap length h.fine.1 in
    sym (append-nil k.out) ∙ (ap (λ (l : List ℕ). k.out ++ l) (sym (none_behind k.out h.fine.0 long)) ∙ sym h.fine.1)

not_no : (b : Bool) → not b ≡ false → b ≡ true
not_no true e = refl
not_no false e = absurd cc

-- one that rests and takes more was sent all
rests : (a b : Bool) → (a || b) ≡ true → b ≡ false → a ≡ true
rests true b e f = refl
rests false true e f = absurd cc
rests false false e f = absurd cc

even_rested : (rs : List Record) (k : Client) → FineFed rs k → is_restless k ≡ false → k.stopped ≡ false → k.out ≡ k.owed
even_rested rs k h rested going = sent_even rs k h (rests (all_sent k) k.stopped (not_no (is_rested k) rested) going)

-- what is over isn't fresh
not_fresh : (rs : List Record) (k : Client) → SentSo rs k → is_over k ≡ true → k.stopped ≡ false
not_fresh rs k h over = go k.stopped refl
  where
    go : (b : Bool) → k.stopped ≡ b → k.stopped ≡ false
    go false e = e
    go true e = absurd (let f : true ≡ false = sym over ∙ h.fresh e in cc)

closed_even : (rs : List Record) (p : Client → Bool) (ks : List Client) → EachSo rs ks → list_any (λ k. p k && not (is_over k)) ks ≡ false → list_any is_restless ks ≡ false → EachEven (filter p ks)
closed_even rs p [] h over rested = tt
closed_even rs p (k ∷ ks) h over rested =
    let o = or_parts (p k && not (is_over k)) (list_any (λ l. p l && not (is_over l)) ks) over in
    let r = or_parts (is_restless k) (list_any is_restless ks) rested in
    go (p k) o.0 r.0 (closed_even rs p ks h.1 o.1 r.1)
  where
    go : (b : Bool) → (b && not (is_over k)) ≡ false → is_restless k ≡ false → EachEven (filter p ks) → EachEven (cond b (k ∷ filter p ks) (filter p ks))
    go true o r rest = (even_rested rs k h.0.fed r (not_fresh rs k h.0 (not_no (is_over k) o)), rest)
    go false o r rest = rest

all_even : (rs : List Record) (ks : List Client) → EachSo rs ks → AllGoing ks → list_any is_restless ks ≡ false → EachEven ks
all_even rs [] h g rested = tt
all_even rs (k ∷ ks) h g rested =
    let r = or_parts (is_restless k) (list_any is_restless ks) rested in
    (even_rested rs k h.0.fed r.0 g.0.going, all_even rs ks h.1 g.1 r.1)

-- ---- a send

drop_front : (xs ys : List ℕ) → drop (length xs) (xs ++ ys) ≡ ys
drop_front [] ys = refl
drop_front (x ∷ xs) ys = drop_front xs ys

take_whole : (xs : List ℕ) → take (length xs) xs ≡ xs
take_whole [] = refl
take_whole (x ∷ xs) = ap (λ (l : List ℕ). x ∷ l) (take_whole xs)

-- these bytes are offered to the one of that number
abbrev EachOffer : ℕ → List ℕ → List Client → Type 0
EachOffer c bytes [] = Unit {0}
EachOffer c bytes (k ∷ ks) = (nat_eq k.conn c ≡ true → (later : List ℕ) × (drop (length k.out) k.owed ≡ bytes ++ later)) × EachOffer c bytes ks

other_offer : (c : ℕ) (bytes : List ℕ) (ks : List Client) → list_any (λ k. nat_eq k.conn c) ks ≡ false → EachOffer c bytes ks
other_offer c bytes [] e = tt
other_offer c bytes (k ∷ ks) e =
    let o = or_parts (nat_eq k.conn c) (list_any (λ k. nat_eq k.conn c) ks) e in
    (λ is. absurd (let f : true ≡ false = sym is ∙ o.0 in cc), other_offer c bytes ks o.1)

one_offer : (c : ℕ) (bytes : List ℕ) (before : List Client) (client : Client) (behind : List Client) → list_any (λ k. nat_eq k.conn c) (before ++ behind) ≡ false → AreNext client bytes → EachOffer c bytes (before ++ client ∷ behind)
one_offer c bytes [] client behind e next = (λ is. (next.later, next.parts), other_offer c bytes behind e)
one_offer c bytes (k ∷ before) client behind e next =
    let o = or_parts (nat_eq k.conn c) (list_any (λ k. nat_eq k.conn c) (before ++ behind)) e in
    (λ is. absurd (let f : true ≡ false = sym is ∙ o.0 in cc), one_offer c bytes before client behind o.1 next)

offered : (ks : List Client) (c : ℕ) (bytes : List ℕ) → IsOffered ks c bytes → EachOffer c bytes ks
offered ks c bytes o = subst (EachOffer c bytes) (sym o.there) (one_offer c bytes o.before o.client o.behind o.alone o.bytes_are)

took_so : (rs : List Record) (bytes : List ℕ) (k : Client) → SentSo rs k → (later : List ℕ) × (drop (length k.out) k.owed ≡ bytes ++ later) → SentSo rs (sent bytes (Took (length bytes)) k)
took_so rs bytes k h next =
    let behind : h.fed.fine.0 ≡ bytes ++ next.0 = sym (drop_front k.out h.fed.fine.0) ∙ (ap (drop (length k.out)) (sym h.fed.fine.1) ∙ next.1) in
    let out : k.out ++ take (length bytes) bytes ≡ k.out ++ bytes = ap (λ (l : List ℕ). k.out ++ l) (take_whole bytes) in
    record {
      fed = record {
        fine = (next.0, h.fed.fine.1 ∙ (ap (λ (l : List ℕ). k.out ++ l) behind ∙ (sym (append_assoc k.out bytes next.0) ∙ ap (λ (l : List ℕ). l ++ next.0) (sym out))));
        owed = owed_same rs k.role k (sent bytes (Took (length bytes)) k) refl h.fed.owed;
      };
      here = h.here;
      fresh = λ e. absurd cc;
    }

sends_so : (rs : List Record) (c : ℕ) (bytes : List ℕ) (ks : List Client) → EachSo rs ks → EachOffer c bytes ks → EachSo rs (map (at_conn c (sent bytes (Took (length bytes)))) ks)
sends_so rs c bytes [] h o = tt
sends_so rs c bytes (k ∷ ks) h o = (go (nat_eq k.conn c) o.0, sends_so rs c bytes ks h.1 o.1)
  where
    go : (b : Bool) → (b ≡ true → (later : List ℕ) × (drop (length k.out) k.owed ≡ bytes ++ later)) → SentSo rs (cond b (sent bytes (Took (length bytes)) k) k)
    go true f = took_so rs bytes k h.0 (f refl)
    go false f = h.0

sends_going : (c : ℕ) (bytes : List ℕ) (ks : List Client) → AllGoing ks → AllGoing (map (at_conn c (sent bytes (Took (length bytes)))) ks)
sends_going c bytes [] h = tt
sends_going c bytes (k ∷ ks) h = (go (nat_eq k.conn c), sends_going c bytes ks h.1)
  where
    go : (b : Bool) → IsGoing (cond b (sent bytes (Took (length bytes)) k) k)
    go true = record { here = h.0.here; going = refl }
    go false = h.0

-- ---- entries

record IsSent (w : World) : Type 0 where
  there : EachSo w.records w.there
  past : EachEven w.past
  -- once no event will come any more, each takes more, and nothing is dialled
  still : w.shut ≡ true → (w.due ≡ false) × AllGoing w.there

due_parts : (a b c : Bool) → (a && (b && not c)) ≡ true → b ≡ true
due_parts true true c e = refl
due_parts true false c e = absurd cc
due_parts false b c e = absurd cc

dialled_sent : (w : World) (host : List ℕ) (port : ℕ) (answer : Dialled) → is_due w ≡ true → IsSent w → IsSent (happens w (Dial host port answer))
dialled_sent w host port answer due h = record { there = there answer; past = h.past; still = λ e. absurd (let f : true ≡ false = sym (due_parts (is_replica w.is) w.due (list_any (λ k. is_link k.role) w.there) due) ∙ (h.still e).0 in cc) }
  where
    there : (answer : Dialled) → EachSo w.records (with_dialled w.is w.records w.there answer)
    there (Conn c) = so_more w.records w.there (new_link w.is w.records c) h.there (record { fed = record { fine = ((new_link w.is w.records c).owed, refl); owed = tt }; here = refl; fresh = λ e. refl })
    there NotNow = h.there

event_sent : (w : World) (paused : List ℕ) (busy : Bool) (ev : Ev) (bytes : List ℕ) → w.shut ≡ false → list_any is_over w.there ≡ false → IsSent w → IsSent (happens w (Event paused busy ev bytes))
event_sent w paused busy ev bytes on none h = record {
  there = going_so v.records v.there
      (feed_fed w.is w.records (added w (rounded w ev bytes)) (rounded w ev bytes).looked.clients
      (look_of_fed w.records w.is w.records (round_all w.is w.contents w.walk (heard_by w ev bytes)) (round_fed w.records w.is w.contents w.walk (heard_by w ev bytes) (heard_fed w.records (map unstopped w.there) ev bytes (unstopped_fed w.records w.there (so_fed w.records w.there h.there))))))
      going;
  past = h.past;
  still = λ e. (still ev (shuts ev e), going);
}
  where
    v : World
    v = happens w (Event paused busy ev bytes)

    going : AllGoing v.there
    going = all_going w.is w.records v.records w.contents w.walk w.there ev bytes none

    shuts : (ev : Ev) → (happens w (Event paused busy ev bytes)).shut ≡ true → ev ≡ Shut
    shuts (Opened c) e = absurd (let f : true ≡ false = sym e ∙ on in cc)
    shuts (Read c n) e = absurd (let f : true ≡ false = sym e ∙ on in cc)
    shuts (Ended c) e = absurd (let f : true ≡ false = sym e ∙ on in cc)
    shuts Quiet e = absurd (let f : true ≡ false = sym e ∙ on in cc)
    shuts Shut e = refl

    still : (ev : Ev) → ev ≡ Shut → (happens w (Event paused busy ev bytes)).due ≡ false
    still ev is = ap (λ (x : Ev). (happens w (Event paused busy x bytes)).due) is

sends : (es : List Entry) (w : World) (s : Script) → AllAsked w es → AllAgree s es → IsSent w → IsSent (world_after es w)
sends [] w s asked agree h = h
sends (Open at ∷ es) w s asked agree h = sends es (happens w (Open at)) (played s (Open at)) asked.1 agree.1 (record { there = h.there; past = h.past; still = h.still })
sends (Dial host port answer ∷ es) w s asked agree h = sends es (happens w (Dial host port answer)) (played s (Dial host port answer)) asked.1 agree.1 (dialled_sent w host port answer asked.0.2 h)
sends (Event paused busy ev bytes ∷ es) w s asked agree h = sends es (happens w (Event paused busy ev bytes)) (played s (Event paused busy ev bytes)) asked.1 agree.1 (event_sent w paused busy ev bytes asked.0.running asked.0.rested.1 h)
sends (Send c bytes answer ∷ es) w s asked agree h = sends es (happens w (Send c bytes answer)) (played s (Send c bytes answer)) asked.1 agree.1 (subst (λ (a : Sent). IsSent (happens w (Send c bytes a))) (sym agree.0) (record {
  there = sends_so w.records c bytes w.there h.there (offered w.there c bytes asked.0);
  past = h.past;
  still = λ e. ((h.still e).0, sends_going c bytes w.there (h.still e).1);
}))
sends (Close c ∷ es) w s asked agree h = sends es (happens w (Close c)) (played s (Close c)) asked.1 agree.1 (record {
  there = so_filter w.records _ w.there h.there;
  past = even_more w.past _ h.past (closed_even w.records (λ k. nat_eq k.conn c) w.there h.there asked.0.over asked.0.rested);
  still = λ e. ((h.still e).0, going_filter _ w.there (h.still e).1);
})

pub all_was : (es : List Entry) (is : Settings) (ticks : List ℕ) (opens : List At) (m : Mark) (s : Script) → AllAsked (started is ticks opens m) es → AllAgree s es → IsRested (world_after es (started is ticks opens m)) → (world_after es (started is ticks opens m)).shut ≡ true → AllSent (world_after es (started is ticks opens m))
all_was es is ticks opens m s asked agree rested shut =
    let w = world_after es (started is ticks opens m) in
    let h = sends es (started is ticks opens m) s asked agree (record { there = tt; past = tt; still = λ e. absurd cc }) in
    (even_sent w.there (all_even w.records w.there h.there (h.still shut).1 rested.0), even_sent w.past h.past)
