-- A connection above 64 is placed nothing, and owed nothing.
use Rattle.std.proofs.Common.{◌≡◌, ℕ, Bool, true, false, cond, List, [], ◌∷◌, ◌++◌, map, refl, sym, ap, subst, ◌∙◌}
use Rattle.std.specs.Prelude.{Ok, Err, nat_eq}
use Rattle.std.specs.List.{filter, list_any}
use Rattle.std.proofs.lemmas.Bool.{or_parts}
use Rattle.tc_base.specs.declared.fields.NotWhole.TheVariants.{Part}
use Rattle.tc_base.specs.Reading.{Front}
use Rattle.tc_io.specs.declared.wire.Dialled.{Dialled}
use Rattle.tc_io.specs.declared.wire.Dialled.TheVariants.{Conn, NotNow}
use Rattle.tc_io.specs.declared.wire.Ev.{Ev}
use Rattle.tc_io.specs.declared.wire.Ev.TheVariants.{Opened, Read, Ended, Quiet, Shut}
use Rattle.tc_io.specs.declared.wire.Sent.{Sent}
use Rattle.tc_io.specs.declared.wire.Sent.TheVariants.{Took, NotYet, Gone}
use Rattle.tc_io.specs.declared.wire.Entry.{Entry}
use Rattle.tc_io.specs.declared.wire.Entry.TheVariants.{Open, Dial, Event, Send, Close}
use Rattle.tc_model.specs.Contents.{Contents, Walk}
use Rattle.ty_memc.specs.declared.text.Piece.{Piece}
use Rattle.ty_memc.specs.Grammar.{piece_at}
use Rattle.ty_ulog.specs.declared.record.Record.{Record}
use Rattle.ty_ulog.specs.Log.{last_of}
use Rattle.ty_wire.specs.Reading.{request_at}
use Rattle.ty_world.specs.Clients.{Client, Role, of_client, of_feed, to_master, is_client, whole_in, is_ready, is_over, has_whole, front_of}
use Rattle.ty_world.specs.Frames.{is_whole}
use Rattle.ty_world.specs.Links.{Looked, look_at, look_next, look_all, unmoved}
use Rattle.ty_world.specs.Logs.{Settings, is_replica}
use Rattle.ty_world.specs.Rounds.{Round, served, round_one, round_all, look_of, fed, fed_by, feed_all}
use Rattle.ty_world.specs.World.{World, unstopped, at_conn, new_client, new_link, clients_in, with_dialled, with_read, with_end, heard, heard_by, sent, rounded, happens, world_after, AllAsked}

pub record IsEmpty (k : Client) : Type 0 where
  pub unread : k.unread ≡ []
  pub owed : k.owed ≡ []
  pub role : k.role ≡ of_client

abbrev pub EachEmpty : List Client → Type 0
EachEmpty [] = Unit {0}
EachEmpty (k ∷ ks) = (k.extra ≡ true → IsEmpty k) × EachEmpty ks

-- none above 64
abbrev EachPlain : List Client → Type 0
EachPlain [] = Unit {0}
EachPlain (k ∷ ks) = (k.extra ≡ false) × EachPlain ks

-- nothing happens to what is done
pub one_still : (is : Settings) (c : Contents) (w : Walk) (k : Client) → has_whole k ≡ false → (round_one is c w k).client ≡ k
unfolding round_one
one_still is c w k e = ready (is_ready k)
  where
    go : (f : Front Piece) → is_whole f ≡ false → (served is c w k f).client ≡ k
    go (Ok x) e = absurd cc
    go (Err d) e = refl

    by : (r : Role) → whole_in r k.unread ≡ false → (served is c w k (cond (is_client r) (piece_at k.unread) (Err Part))).client ≡ k
    by of_client e = go (piece_at k.unread) e
    by (of_feed above base) e = refl
    by (to_master named broken) e = refl

    ready : (b : Bool) → (served is c w k (cond b (cond (is_client k.role) (piece_at k.unread) (Err Part)) (Err Part))).client ≡ k
    ready true = by k.role e
    ready false = refl

plain_empty : (ks : List Client) → EachPlain ks → EachEmpty ks
plain_empty [] h = tt
plain_empty (k ∷ ks) h = (λ e. absurd (let f = h.0 in cc), plain_empty ks h.1)

plain_map : (f : Client → Client) → ((k : Client) → (f k).extra ≡ k.extra) → (ks : List Client) → EachPlain ks → EachPlain (map f ks)
plain_map f g [] h = tt
plain_map f g (k ∷ ks) h = (g k ∙ h.0, plain_map f g ks h.1)

at_same : (c : ℕ) (f : Client → Client) → ((k : Client) → (f k).extra ≡ k.extra) → (k : Client) → (at_conn c f k).extra ≡ k.extra
at_same c f g k = go (nat_eq k.conn c)
  where
    go : (b : Bool) → (cond b (f k) k).extra ≡ k.extra
    go true = g k
    go false = refl

-- what isn't over isn't above 64
none_over : (ks : List Client) → list_any is_over ks ≡ false → EachPlain ks
none_over [] e = tt
none_over (k ∷ ks) e =
    let a = or_parts (is_over k) (list_any is_over ks) e in
    let b = or_parts k.gone _ a.0 in
    ((or_parts k.extra _ b.1).0, none_over ks a.1)

empty_more : (ks ls : List Client) → EachEmpty ks → EachEmpty ls → EachEmpty (ks ++ ls)
empty_more [] ls h g = g
empty_more (k ∷ ks) ls h g = (h.0, empty_more ks ls h.1 g)

empty_filter : (p : Client → Bool) (ks : List Client) → EachEmpty ks → EachEmpty (filter p ks)
empty_filter p [] h = tt
empty_filter p (k ∷ ks) h = go (p k) (empty_filter p ks h.1)
  where
    go : (b : Bool) → EachEmpty (filter p ks) → EachEmpty (cond b (k ∷ filter p ks) (filter p ks))
    go true r = (h.0, r)
    go false r = r

heard_empty : (ks : List Client) (ev : Ev) (bytes : List ℕ) → EachPlain ks → EachEmpty (heard ks ev bytes)
heard_empty ks (Opened c) bytes h = empty_more ks (new_client c (clients_in ks) ∷ []) (plain_empty ks h) (λ e. record { unread = refl; owed = refl; role = refl }, tt)
heard_empty ks (Read c n) bytes h = plain_empty _ (plain_map (at_conn c (with_read bytes)) (at_same c (with_read bytes) (λ k. refl)) ks h)
heard_empty ks (Ended c) bytes h = plain_empty _ (plain_map (at_conn c with_end) (at_same c with_end (λ k. refl)) ks h)
heard_empty ks Quiet bytes h = plain_empty ks h
heard_empty ks Shut bytes h = plain_empty ks h

-- ---- a round

one_extra : (is : Settings) (c : Contents) (w : Walk) (k : Client) → (round_one is c w k).client.extra ≡ k.extra
unfolding round_one
one_extra is c w k = go (front_of k)
  where
    go : (f : Front Piece) → (served is c w k f).client.extra ≡ k.extra
    go (Ok x) = refl
    go (Err d) = refl

-- one that is empty has nothing whole
none_whole : (k : Client) → IsEmpty k → has_whole k ≡ false
unfolding piece_at request_at
none_whole k n = ap (λ (r : Role). whole_in r k.unread) n.role ∙ ap (λ (l : List ℕ). is_whole (piece_at l)) n.unread

one_empty : (is : Settings) (c : Contents) (w : Walk) (k : Client) → (k.extra ≡ true → IsEmpty k) → (round_one is c w k).client.extra ≡ true → IsEmpty (round_one is c w k).client
one_empty is c w k h e = let n = h (sym (one_extra is c w k) ∙ e) in subst IsEmpty (sym (one_still is c w k (none_whole k n))) n

round_empty : (is : Settings) (c : Contents) (w : Walk) (ks : List Client) → EachEmpty ks → EachEmpty (round_all is c w ks).clients
round_empty is c w [] h = tt
round_empty is c w (k ∷ ks) h = let one = (round_one is c w k).made in (one_empty is c w k h.0, round_empty is one.contents one.walk ks h.1)

-- the link isn't one of them
look_empty : (own held : ℕ) (c : Contents) (w : Walk) (ks : List Client) → EachEmpty ks → EachEmpty (look_all own held c w ks).clients
unfolding look_at
look_empty own held c w [] h = tt
look_empty own held c w (k ∷ ks) h = go k.role refl (look_empty own held c w ks h.1)
  where
    go : (r : Role) → k.role ≡ r → EachEmpty (look_all own held c w ks).clients → EachEmpty (look_next own held c w r k ks (look_all own held c w ks)).clients
    go of_client e rest = (h.0, rest)
    go (of_feed above base) e rest = (h.0, rest)
    go (to_master named broken) e rest = (λ x. absurd (let n : to_master named broken ≡ of_client = sym e ∙ (h.0 x).role in cc), h.1)

look_of_empty : (is : Settings) (log : List Record) (r : Round) → EachEmpty r.clients → EachEmpty (look_of is log r).clients
look_of_empty is log r h = go (is_replica is)
  where
    go : (b : Bool) → EachEmpty (cond {A = Looked} b (look_all is.own (last_of 0 log) r.made.contents r.made.walk r.clients) (record { dealt_is = unmoved r.made.contents r.made.walk false; clients = r.clients })).clients
    go true = look_empty is.own (last_of 0 log) r.made.contents r.made.walk r.clients h
    go false = h

-- nor is a feed
fed_empty : (log : List Record) (k : Client) → (k.extra ≡ true → IsEmpty k) → (fed log k).extra ≡ true → IsEmpty (fed log k)
fed_empty log k h = go k.role refl
  where
    go : (r : Role) → k.role ≡ r → (fed_by log r k).extra ≡ true → IsEmpty (fed_by log r k)
    go of_client e x = h x
    go (of_feed stamp base) e x = absurd (let n : of_feed stamp base ≡ of_client = sym e ∙ (h x).role in cc)
    go (to_master named broken) e x = h x

feds_empty : (log : List Record) (ks : List Client) → EachEmpty ks → EachEmpty (map (fed log) ks)
feds_empty log [] h = tt
feds_empty log (k ∷ ks) h = (fed_empty log k h.0, feds_empty log ks h.1)

feed_empty : (is : Settings) (log : List Record) (ks : List Client) → EachEmpty ks → EachEmpty (feed_all is log ks)
feed_empty is log ks h = go is.logs
  where
    go : (b : Bool) → EachEmpty (cond b (map (fed log) ks) ks)
    go true = feds_empty log ks h
    go false = h

behind_empty : (w : World) (ev : Ev) (bytes : List ℕ) (log : List Record) → EachPlain w.there → EachEmpty (feed_all w.is log (rounded w ev bytes).looked.clients)
behind_empty w ev bytes log h =
    let ks = heard_by w ev bytes in
    let r = round_all w.is w.contents w.walk ks in
    feed_empty w.is log (look_of w.is w.records r).clients (look_of_empty w.is w.records r (round_empty w.is w.contents w.walk ks (heard_empty (map unstopped w.there) ev bytes (plain_map unstopped (λ k. refl) w.there h))))

-- ---- entries

sent_empty : (bytes : List ℕ) (answer : Sent) (k : Client) → (k.extra ≡ true → IsEmpty k) → (sent bytes answer k).extra ≡ true → IsEmpty (sent bytes answer k)
sent_empty bytes (Took n) k h e = let x = h e in record { unread = x.unread; owed = x.owed; role = x.role }
sent_empty bytes NotYet k h e = let x = h e in record { unread = x.unread; owed = x.owed; role = x.role }
sent_empty bytes Gone k h e = let x = h e in record { unread = x.unread; owed = x.owed; role = x.role }

sends_empty : (c : ℕ) (bytes : List ℕ) (answer : Sent) (ks : List Client) → EachEmpty ks → EachEmpty (map (at_conn c (sent bytes answer)) ks)
sends_empty c bytes answer [] h = tt
sends_empty c bytes answer (k ∷ ks) h = (go (nat_eq k.conn c), sends_empty c bytes answer ks h.1)
  where
    go : (b : Bool) → (cond b (sent bytes answer k) k).extra ≡ true → IsEmpty (cond b (sent bytes answer k) k)
    go true = sent_empty bytes answer k h.0
    go false = h.0

dialled_empty : (is : Settings) (log : List Record) (ks : List Client) (answer : Dialled) → EachEmpty ks → EachEmpty (with_dialled is log ks answer)
dialled_empty is log ks (Conn c) h = empty_more ks (new_link is log c ∷ []) h (λ e. absurd cc, tt)
dialled_empty is log ks NotNow h = h

pub all_empty : (es : List Entry) (w : World) → AllAsked w es → EachEmpty w.there → EachEmpty w.past → EachEmpty (world_after es w).there × EachEmpty (world_after es w).past
all_empty [] w asked there past = (there, past)
all_empty (Open at ∷ es) w asked there past = all_empty es (happens w (Open at)) asked.1 there past
all_empty (Dial host port answer ∷ es) w asked there past = all_empty es (happens w (Dial host port answer)) asked.1 (dialled_empty w.is w.records w.there answer there) past
all_empty (Event paused busy ev bytes ∷ es) w asked there past =
    let v = happens w (Event paused busy ev bytes) in
    all_empty es v asked.1 (behind_empty w ev bytes v.records (none_over w.there asked.0.rested.1)) past
all_empty (Send c bytes answer ∷ es) w asked there past = all_empty es (happens w (Send c bytes answer)) asked.1 (sends_empty c bytes answer w.there there) past
all_empty (Close c ∷ es) w asked there past = all_empty es (happens w (Close c)) asked.1 (empty_filter _ w.there there) (empty_more w.past _ past (empty_filter _ w.there there))
