-- At every moment a feed is owed what it was by then, and all records above its timestamp; one that was closed, those of that moment.
use Rattle.std.proofs.Common.{◌≡◌, ◌∙◌, ℕ, Bool, true, false, cond, List, [], ◌∷◌, ◌++◌, append_assoc, map, refl, sym, ap, subst}
use Rattle.std.specs.Prelude.{◌&&◌, Ok, Err, nat_eq, not}
use Rattle.std.specs.List.{filter}
use Rattle.tc_base.specs.declared.request.Request.TheVariants.{Repl}
use Rattle.tc_base.specs.Reading.{Front}
use Rattle.tc_io.specs.declared.wire.At.{At}
use Rattle.tc_io.specs.declared.wire.Dialled.{Dialled}
use Rattle.tc_io.specs.declared.wire.Dialled.TheVariants.{Conn, NotNow}
use Rattle.tc_io.specs.declared.wire.Ev.{Ev}
use Rattle.tc_io.specs.declared.wire.Ev.TheVariants.{Opened, Read, Ended, Quiet, Shut}
use Rattle.tc_io.specs.declared.wire.Sent.{Sent}
use Rattle.tc_io.specs.declared.wire.Sent.TheVariants.{Took, NotYet, Gone}
use Rattle.tc_io.specs.declared.wire.Entry.{Entry}
use Rattle.tc_io.specs.declared.wire.Entry.TheVariants.{Open, Dial, Event, Send, Close}
use Rattle.tc_model.specs.Contents.{Contents, Walk}
use Rattle.ty_memc.specs.declared.text.Piece.{Piece}
use Rattle.ty_memc.specs.declared.text.Piece.TheVariants as piece
use Rattle.ty_ulog.specs.declared.record.Record.{Record}
use Rattle.ty_ulog.specs.Log.{last_of}
use Rattle.ty_world.specs.Answers.{FedAs, EachFed, WasFedAs, EachWasFed}
use Rattle.ty_world.specs.Clients.{Client, Role, of_client, of_feed, to_master, is_client, front_of}
use Rattle.ty_world.specs.Links.{Looked, look_at, look_next, look_all, unmoved}
use Rattle.ty_world.specs.Logs.{Settings, is_replica, records_after}
use Rattle.ty_world.specs.Rounds.{Round, role_after, served, round_one, round_all, look_of, fed, fed_by, feed_all}
use Rattle.ty_world.specs.World.{World, Mark, started, unstopped, at_conn, new_client, new_link, clients_in, with_dialled, with_read, with_end, heard, heard_by, sent, rounded, added, happens, world_after}
use Rattle.std.proofs.lemmas.List.{append-nil}
use Rattle.ty_world.proofs.Follows.{front_client}

-- ---- lists

abbrev KeepsFed : List Record → (Client → Client) → Type 0
KeepsFed rs f = (k : Client) → FedAs rs k.role k → FedAs rs (f k).role (f k)

fed_map : (rs : List Record) (f : Client → Client) → KeepsFed rs f → (ks : List Client) → EachFed rs ks → EachFed rs (map f ks)
fed_map rs f g [] h = tt
fed_map rs f g (k ∷ ks) h = (g k h.0, fed_map rs f g ks h.1)

fed_more : (rs : List Record) (ks ls : List Client) → EachFed rs ks → EachFed rs ls → EachFed rs (ks ++ ls)
fed_more rs [] ls h g = g
fed_more rs (k ∷ ks) ls h g = (h.0, fed_more rs ks ls h.1 g)

fed_filter : (rs : List Record) (p : Client → Bool) (ks : List Client) → EachFed rs ks → EachFed rs (filter p ks)
fed_filter rs p [] h = tt
fed_filter rs p (k ∷ ks) h = go (p k) (fed_filter rs p ks h.1)
  where
    go : (b : Bool) → EachFed rs (filter p ks) → EachFed rs (cond b (k ∷ filter p ks) (filter p ks))
    go true r = (h.0, r)
    go false r = r

at_fed : (rs : List Record) (c : ℕ) (f : Client → Client) → KeepsFed rs f → KeepsFed rs (at_conn c f)
at_fed rs c f g k h = go (nat_eq k.conn c)
  where
    go : (b : Bool) → FedAs rs (cond b (f k) k).role (cond b (f k) k)
    go true = g k h
    go false = h

-- the same is owed
owed_same : (rs : List Record) (r : Role) (k j : Client) → j.owed ≡ k.owed → FedAs rs r k → FedAs rs r j
owed_same rs of_client k j e h = tt
owed_same rs (of_feed stamp base) k j e h = e ∙ h
owed_same rs (to_master named broken) k j e h = tt

-- ---- with an update log each round owes it anew

one_fed : (rs : List Record) (k : Client) → FedAs rs (fed rs k).role (fed rs k)
one_fed rs k = go k.role refl
  where
    go : (r : Role) → k.role ≡ r → FedAs rs (fed_by rs r k).role (fed_by rs r k)
    go of_client e = subst (λ (r : Role). FedAs rs r k) (sym e) tt
    go (of_feed stamp base) e = subst (λ (r : Role). FedAs rs r (fed_by rs (of_feed stamp base) k)) (sym e) refl
    go (to_master named broken) e = subst (λ (r : Role). FedAs rs r k) (sym e) tt

each_fed : (rs : List Record) (ks : List Client) → EachFed rs (map (fed rs) ks)
each_fed rs [] = tt
each_fed rs (k ∷ ks) = (one_fed rs k, each_fed rs ks)

-- ---- without one there is no feed

role_still : (is : Settings) → is.logs ≡ false → (x : Piece) (base : List ℕ) (r : Role) → role_after is x base r ≡ r
role_still is none (piece.Request (Repl timestamp server)) base r = ap (λ (b : Bool). cond (b && not (nat_eq server is.own)) (of_feed timestamp base) r) none
role_still is none _ base r = refl

client_fed : (rs : List Record) (r : Role) (j : Client) → is_client r ≡ true → FedAs rs r j
client_fed rs of_client j e = tt
client_fed rs (of_feed above base) j e = absurd cc
client_fed rs (to_master named broken) j e = absurd cc

served_fed : (rs : List Record) (is : Settings) → is.logs ≡ false → (c : Contents) (w : Walk) → KeepsFed rs (λ k. (round_one is c w k).client)
unfolding round_one
served_fed rs is none c w k h = go (front_of k) refl
  where
    go : (f : Front Piece) → front_of k ≡ f → FedAs rs (served is c w k f).client.role (served is c w k f).client
    go (Ok x) e =
        let j = (served is c w k (Ok x)).client in
        subst (λ (r : Role). FedAs rs r j) (sym (role_still is none x.0 j.owed k.role)) (client_fed rs k.role j (front_client k x e))
    go (Err d) e = h

round_fed : (rs : List Record) (is : Settings) → is.logs ≡ false → (c : Contents) (w : Walk) (ks : List Client) → EachFed rs ks → EachFed rs (round_all is c w ks).clients
round_fed rs is none c w [] h = tt
round_fed rs is none c w (k ∷ ks) h = let one = (round_one is c w k).made in (served_fed rs is none c w k h.0, round_fed rs is none one.contents one.walk ks h.1)

look_fed : (rs : List Record) (own held : ℕ) (c : Contents) (w : Walk) (ks : List Client) → EachFed rs ks → EachFed rs (look_all own held c w ks).clients
unfolding look_at
look_fed rs own held c w [] h = tt
look_fed rs own held c w (k ∷ ks) h = go k.role (look_fed rs own held c w ks h.1)
  where
    go : (r : Role) → EachFed rs (look_all own held c w ks).clients → EachFed rs (look_next own held c w r k ks (look_all own held c w ks)).clients
    go of_client rest = (h.0, rest)
    go (of_feed above base) rest = (h.0, rest)
    go (to_master named broken) rest = (tt, h.1)

look_of_fed : (rs : List Record) (is : Settings) (log : List Record) (r : Round) → EachFed rs r.clients → EachFed rs (look_of is log r).clients
look_of_fed rs is log r h = go (is_replica is)
  where
    go : (b : Bool) → EachFed rs (cond {A = Looked} b (look_all is.own (last_of 0 log) r.made.contents r.made.walk r.clients) (record { dealt_is = unmoved r.made.contents r.made.walk false; clients = r.clients })).clients
    go true = look_fed rs is.own (last_of 0 log) r.made.contents r.made.walk r.clients h
    go false = h

heard_fed : (rs : List Record) (ks : List Client) (ev : Ev) (bytes : List ℕ) → EachFed rs ks → EachFed rs (heard ks ev bytes)
heard_fed rs ks (Opened c) bytes h = fed_more rs ks (new_client c (clients_in ks) ∷ []) h (tt, tt)
heard_fed rs ks (Read c n) bytes h = fed_map rs (at_conn c (with_read bytes)) (at_fed rs c (with_read bytes) (λ k. owed_same rs k.role k (with_read bytes k) refl)) ks h
heard_fed rs ks (Ended c) bytes h = fed_map rs (at_conn c with_end) (at_fed rs c with_end (λ k. owed_same rs k.role k (with_end k) refl)) ks h
heard_fed rs ks Quiet bytes h = h
heard_fed rs ks Shut bytes h = h

-- ---- all

event_fed : (w : World) (ev : Ev) (bytes : List ℕ) → EachFed w.records w.there → EachFed (records_after w.is w.records (added w (rounded w ev bytes))) (feed_all w.is (records_after w.is w.records (added w (rounded w ev bytes))) (rounded w ev bytes).looked.clients)
event_fed w ev bytes h = go w.is.logs refl
  where
    cs : List Client
    cs = (rounded w ev bytes).looked.clients

    rs : List Record
    rs = records_after w.is w.records (added w (rounded w ev bytes))

    go : (b : Bool) → w.is.logs ≡ b → EachFed rs (cond b (map (fed rs) cs) cs)
    go true e = each_fed rs cs
    go false e =
        let same : rs ≡ w.records = ap (λ (b : Bool). cond b (w.records ++ added w (rounded w ev bytes)) w.records) e in
        let ks = heard_by w ev bytes in
        let us = fed_map w.records unstopped (λ k. owed_same w.records k.role k (unstopped k) refl) w.there h in
        subst (λ (l : List Record). EachFed l cs) (sym same) (look_of_fed w.records w.is w.records (round_all w.is w.contents w.walk ks) (round_fed w.records w.is e w.contents w.walk ks (heard_fed w.records (map unstopped w.there) ev bytes us)))

sent_fed : (rs : List Record) (bytes : List ℕ) (answer : Sent) → KeepsFed rs (sent bytes answer)
sent_fed rs bytes (Took n) k h = owed_same rs k.role k (sent bytes (Took n) k) refl h
sent_fed rs bytes NotYet k h = owed_same rs k.role k (sent bytes NotYet k) refl h
sent_fed rs bytes Gone k h = owed_same rs k.role k (sent bytes Gone k) refl h

dialled_fed : (rs : List Record) (is : Settings) (log : List Record) (ks : List Client) (answer : Dialled) → EachFed rs ks → EachFed rs (with_dialled is log ks answer)
dialled_fed rs is log ks (Conn c) h = fed_more rs ks (new_link is log c ∷ []) h (tt, tt)
dialled_fed rs is log ks NotNow h = h

-- ---- those that were closed

-- more records came
was_more : (rs more : List Record) (r : Role) (k : Client) → WasFedAs rs r k → WasFedAs (rs ++ more) r k
was_more rs more of_client k h = tt
was_more rs more (of_feed stamp base) k h = record { held = h.held; later = h.later ++ more; parts = ap (λ (l : List Record). l ++ more) h.parts ∙ append_assoc h.held h.later more; owed = h.owed }
was_more rs more (to_master named broken) k h = tt

each_was_more : (rs more : List Record) (ks : List Client) → EachWasFed rs ks → EachWasFed (rs ++ more) ks
each_was_more rs more [] h = tt
each_was_more rs more (k ∷ ks) h = (was_more rs more k.role k h.0, each_was_more rs more ks h.1)

event_was : (is : Settings) (rs more : List Record) (ks : List Client) → EachWasFed rs ks → EachWasFed (records_after is rs more) ks
event_was is rs more ks h = go is.logs
  where
    go : (b : Bool) → EachWasFed (cond b (rs ++ more) rs) ks
    go true = each_was_more rs more ks h
    go false = h

-- one that is closed now
was_now : (rs : List Record) (r : Role) (k : Client) → FedAs rs r k → WasFedAs rs r k
was_now rs of_client k h = tt
was_now rs (of_feed stamp base) k h = record { held = rs; later = []; parts = sym (append-nil rs); owed = h }
was_now rs (to_master named broken) k h = tt

each_was_now : (rs : List Record) (ks : List Client) → EachFed rs ks → EachWasFed rs ks
each_was_now rs [] h = tt
each_was_now rs (k ∷ ks) h = (was_now rs k.role k h.0, each_was_now rs ks h.1)

was_and : (rs : List Record) (ks ls : List Client) → EachWasFed rs ks → EachWasFed rs ls → EachWasFed rs (ks ++ ls)
was_and rs [] ls h g = g
was_and rs (k ∷ ks) ls h g = (h.0, was_and rs ks ls h.1 g)

-- ---- entries

record IsFed (w : World) : Type 0 where
  there : EachFed w.records w.there
  past : EachWasFed w.records w.past

feds : (es : List Entry) (w : World) → IsFed w → IsFed (world_after es w)
feds [] w h = h
feds (Open at ∷ es) w h = feds es (happens w (Open at)) (record { there = h.there; past = h.past })
feds (Dial host port answer ∷ es) w h = feds es (happens w (Dial host port answer)) (record { there = dialled_fed w.records w.is w.records w.there answer h.there; past = h.past })
feds (Event paused busy ev bytes ∷ es) w h = feds es (happens w (Event paused busy ev bytes)) (record { there = event_fed w ev bytes h.there; past = event_was w.is w.records (added w (rounded w ev bytes)) w.past h.past })
feds (Send c bytes answer ∷ es) w h =
    feds es (happens w (Send c bytes answer)) (record { there = fed_map w.records (at_conn c (sent bytes answer)) (at_fed w.records c (sent bytes answer) (sent_fed w.records bytes answer)) w.there h.there; past = h.past })
feds (Close c ∷ es) w h =
    feds es (happens w (Close c)) (record { there = fed_filter w.records _ w.there h.there; past = was_and w.records w.past _ h.past (each_was_now w.records _ (fed_filter w.records (λ k. nat_eq k.conn c) w.there h.there)) })

fed_from : (es : List Entry) (is : Settings) (ticks : List ℕ) (opens : List At) (m : Mark) → IsFed (world_after es (started is ticks opens m))
fed_from es is ticks opens m = feds es (started is ticks opens m) (record { there = tt; past = tt })

pub all_fed : (es : List Entry) (is : Settings) (ticks : List ℕ) (opens : List At) (m : Mark) → EachFed (world_after es (started is ticks opens m)).records (world_after es (started is ticks opens m)).there
all_fed es is ticks opens m = (fed_from es is ticks opens m).there

pub all_was_fed : (es : List Entry) (is : Settings) (ticks : List ℕ) (opens : List At) (m : Mark) → EachWasFed (world_after es (started is ticks opens m)).records (world_after es (started is ticks opens m)).past
all_was_fed es is ticks opens m = (fed_from es is ticks opens m).past
