-- Numbers ascend: each that opens or is dialled is above all that were given.
use Rattle.std.proofs.Common.{◌≡◌, ◌∙◌, ◌≤◌, ◌<◌, ◌+◌, ℕ, Bool, true, false, cond, List, [], ◌∷◌, ◌++◌, drop, map, refl, sym, ap, subst, arith}
use Rattle.std.specs.Prelude.{Ok, Err, nat_eq}
use Rattle.std.specs.List.{filter}
use Rattle.tc_base.specs.Reading.{Front}
use Rattle.tc_io.specs.declared.wire.At.{At}
use Rattle.tc_io.specs.declared.wire.Dialled.{Dialled}
use Rattle.tc_io.specs.declared.wire.Dialled.TheVariants.{Conn, NotNow}
use Rattle.tc_io.specs.declared.wire.Ev.{Ev}
use Rattle.tc_io.specs.declared.wire.Ev.TheVariants.{Opened, Read, Ended, Quiet, Shut}
use Rattle.tc_io.specs.declared.wire.Sent.{Sent}
use Rattle.tc_io.specs.declared.wire.Sent.TheVariants.{Took, NotYet, Gone}
use Rattle.tc_io.specs.declared.wire.Entry.{Entry}
use Rattle.tc_io.specs.declared.wire.Entry.TheVariants.{Open, Dial, Event, Send, Close}
use Rattle.tc_io.specs.Lines.{given_after, given_dialled, MayDial, dialled_rises}
use Rattle.tc_model.specs.Contents.{Contents, Walk}
use Rattle.ty_memc.specs.declared.text.Piece.{Piece}
use Rattle.ty_ulog.specs.declared.record.Record.{Record}
use Rattle.ty_ulog.specs.Log.{last_of}
use Rattle.ty_world.specs.Clients.{Client, Role, of_client, of_feed, to_master, front_of}
use Rattle.ty_world.specs.Logs.{Settings, is_replica}
use Rattle.ty_world.specs.Links.{Looked, look_at, look_next, look_all, unmoved}
use Rattle.ty_world.specs.Rounds.{Round, served, round_one, round_all, look_of, fed, fed_by, feed_all}
use Rattle.ty_world.specs.World.{World, Mark, started, unstopped, at_conn, new_client, new_link, clients_in, with_dialled, with_read, with_end, heard, heard_by, sent, happens, world_after, rounded, IsAbove, AllCame}
use Rattle.ty_world.specs.Answers.{AllAbove, AllBelow, Ascends, AreInOrder}

-- ---- the same numbers

abbrev numbers : List Client → List ℕ
numbers ks = map (λ k. k.conn) ks

-- the same connections, by their numbers
abbrev SameConns : List Client → List Client → Type 0
SameConns ks ls = numbers ls ≡ numbers ks

abbrev first : List ℕ → ℕ
first [] = 0
first (n ∷ ns) = n

above_same : (c : ℕ) (ks ls : List Client) → SameConns ks ls → AllAbove c ks → AllAbove c ls
above_same c ks [] e h = tt
above_same c [] (l ∷ ls) e h = absurd cc
above_same c (k ∷ ks) (l ∷ ls) e h = (subst (λ (n : ℕ). c < n) (sym (ap first e)) h.0, above_same c ks ls (ap (drop 1) e) h.1)

ascends_same : (ks ls : List Client) → SameConns ks ls → Ascends ks → Ascends ls
ascends_same ks [] e h = tt
ascends_same [] (l ∷ ls) e h = absurd cc
ascends_same (k ∷ ks) (l ∷ ls) e h = (subst (λ (n : ℕ). AllAbove n ls) (sym (ap first e)) (above_same k.conn ks ls (ap (drop 1) e) h.0), ascends_same ks ls (ap (drop 1) e) h.1)

below_same : (given : ℕ) (ks ls : List Client) → SameConns ks ls → AllBelow given ks → AllBelow given ls
below_same given ks [] e h = tt
below_same given [] (l ∷ ls) e h = absurd cc
below_same given (k ∷ ks) (l ∷ ls) e h = (subst (λ (n : ℕ). n < given) (sym (ap first e)) h.0, below_same given ks ls (ap (drop 1) e) h.1)

abbrev Keeps : (Client → Client) → Type 0
Keeps f = (k : Client) → (f k).conn ≡ k.conn

map_same : (f : Client → Client) → Keeps f → (ks : List Client) → SameConns ks (map f ks)
map_same f g [] = refl
map_same f g (k ∷ ks) = ap (λ (n : ℕ). n ∷ numbers (map f ks)) (g k) ∙ ap (λ (ns : List ℕ). k.conn ∷ ns) (map_same f g ks)

at_keeps : (c : ℕ) (f : Client → Client) → Keeps f → Keeps (at_conn c f)
at_keeps c f g k = go (nat_eq k.conn c)
  where
    go : (b : Bool) → (cond b (f k) k).conn ≡ k.conn
    go true = g k
    go false = refl

sent_keeps : (bytes : List ℕ) (answer : Sent) → Keeps (sent bytes answer)
sent_keeps bytes (Took n) k = refl
sent_keeps bytes NotYet k = refl
sent_keeps bytes Gone k = refl

one_keeps : (is : Settings) (c : Contents) (w : Walk) (k : Client) → (round_one is c w k).client.conn ≡ k.conn
unfolding round_one
one_keeps is c w k = go (front_of k)
  where
    go : (f : Front Piece) → (served is c w k f).client.conn ≡ k.conn
    go (Ok x) = refl
    go (Err d) = refl

round_same : (is : Settings) (c : Contents) (w : Walk) (ks : List Client) → SameConns ks (round_all is c w ks).clients
round_same is c w [] = refl
round_same is c w (k ∷ ks) =
    let one = (round_one is c w k).made in
    ap (λ (n : ℕ). n ∷ numbers (round_all is one.contents one.walk ks).clients) (one_keeps is c w k) ∙ ap (λ (ns : List ℕ). k.conn ∷ ns) (round_same is one.contents one.walk ks)

look_same : (own held : ℕ) (c : Contents) (w : Walk) (ks : List Client) → SameConns ks (look_all own held c w ks).clients
unfolding look_at
look_same own held c w [] = refl
look_same own held c w (k ∷ ks) = go k.role (look_same own held c w ks)
  where
    go : (r : Role) → SameConns ks (look_all own held c w ks).clients → SameConns (k ∷ ks) (look_next own held c w r k ks (look_all own held c w ks)).clients
    go of_client rest = ap (λ (ns : List ℕ). k.conn ∷ ns) rest
    go (of_feed above base) rest = ap (λ (ns : List ℕ). k.conn ∷ ns) rest
    go (to_master named broken) rest = refl

look_of_same : (is : Settings) (log : List Record) (r : Round) → SameConns r.clients (look_of is log r).clients
look_of_same is log r = go (is_replica is)
  where
    go : (b : Bool) → SameConns r.clients (cond {A = Looked} b (look_all is.own (last_of 0 log) r.made.contents r.made.walk r.clients) (record { dealt_is = unmoved r.made.contents r.made.walk false; clients = r.clients })).clients
    go true = look_same is.own (last_of 0 log) r.made.contents r.made.walk r.clients
    go false = refl

fed_keeps : (log : List Record) → Keeps (fed log)
fed_keeps log k = go k.role
  where
    go : (r : Role) → (fed_by log r k).conn ≡ k.conn
    go of_client = refl
    go (of_feed stamp base) = refl
    go (to_master named broken) = refl

feed_same : (is : Settings) (log : List Record) (ks : List Client) → SameConns ks (feed_all is log ks)
feed_same is log ks = go is.logs
  where
    go : (b : Bool) → SameConns ks (cond b (map (fed log) ks) ks)
    go true = map_same (fed log) (fed_keeps log) ks
    go false = refl

-- ---- fewer and more

above_filter : (p : Client → Bool) (c : ℕ) (ks : List Client) → AllAbove c ks → AllAbove c (filter p ks)
above_filter p c [] h = tt
above_filter p c (k ∷ ks) h = go (p k) (above_filter p c ks h.1)
  where
    go : (b : Bool) → AllAbove c (filter p ks) → AllAbove c (cond b (k ∷ filter p ks) (filter p ks))
    go true r = (h.0, r)
    go false r = r

ascends_filter : (p : Client → Bool) (ks : List Client) → Ascends ks → Ascends (filter p ks)
ascends_filter p [] h = tt
ascends_filter p (k ∷ ks) h = go (p k) (ascends_filter p ks h.1)
  where
    go : (b : Bool) → Ascends (filter p ks) → Ascends (cond b (k ∷ filter p ks) (filter p ks))
    go true r = (above_filter p k.conn ks h.0, r)
    go false r = r

below_filter : (p : Client → Bool) (given : ℕ) (ks : List Client) → AllBelow given ks → AllBelow given (filter p ks)
below_filter p given [] h = tt
below_filter p given (k ∷ ks) h = go (p k) (below_filter p given ks h.1)
  where
    go : (b : Bool) → AllBelow given (filter p ks) → AllBelow given (cond b (k ∷ filter p ks) (filter p ks))
    go true r = (h.0, r)
    go false r = r

below_append : (given : ℕ) (ks ls : List Client) → AllBelow given ks → AllBelow given ls → AllBelow given (ks ++ ls)
below_append given [] ls h g = g
below_append given (k ∷ ks) ls h g = (h.0, below_append given ks ls h.1 g)

below_later : (given later : ℕ) → given ≤ later → (ks : List Client) → AllBelow given ks → AllBelow later ks
below_later given later le [] h = tt
below_later given later le (k ∷ ks) h = (omega (arith, le, h.0), below_later given later le ks h.1)

above_more : (c : ℕ) (ks : List Client) (k : Client) → AllAbove c ks → c < k.conn → AllAbove c (ks ++ k ∷ [])
above_more c [] k h lt = (lt, tt)
above_more c (x ∷ ks) k h lt = (h.0, above_more c ks k h.1 lt)

ascends_more : (given : ℕ) (ks : List Client) (k : Client) → Ascends ks → AllBelow given ks → given ≤ k.conn → Ascends (ks ++ k ∷ [])
ascends_more given [] k h b le = (tt, tt)
ascends_more given (x ∷ ks) k h b le = (above_more x.conn ks k h.0 (omega (arith, b.0, le)), ascends_more given ks k h.1 b.1 le)

-- ---- an event, and a dial

rises : (given : ℕ) (ev : Ev) → IsAbove given ev → given ≤ given_after given ev
rises given (Opened c) above = omega (arith, above)
rises given (Read c n) above = omega arith
rises given (Ended c) above = omega arith
rises given Quiet above = omega arith
rises given Shut above = omega arith

heard_ascends : (given : ℕ) (ks : List Client) (ev : Ev) (bytes : List ℕ) → IsAbove given ev → Ascends ks → AllBelow given ks → Ascends (heard ks ev bytes)
heard_ascends given ks (Opened c) bytes above h b = ascends_more given ks (new_client c (clients_in ks)) h b above
heard_ascends given ks (Read c n) bytes above h b = ascends_same ks _ (map_same (at_conn c (with_read bytes)) (at_keeps c (with_read bytes) (λ k. refl)) ks) h
heard_ascends given ks (Ended c) bytes above h b = ascends_same ks _ (map_same (at_conn c with_end) (at_keeps c with_end (λ k. refl)) ks) h
heard_ascends given ks Quiet bytes above h b = h
heard_ascends given ks Shut bytes above h b = h

heard_below : (given : ℕ) (ks : List Client) (ev : Ev) (bytes : List ℕ) → IsAbove given ev → AllBelow given ks → AllBelow (given_after given ev) (heard ks ev bytes)
heard_below given ks (Opened c) bytes above b = below_append (c + 1) ks (new_client c (clients_in ks) ∷ []) (below_later given (c + 1) (omega (arith, above)) ks b) (omega arith, tt)
heard_below given ks (Read c n) bytes above b = below_same given ks _ (map_same (at_conn c (with_read bytes)) (at_keeps c (with_read bytes) (λ k. refl)) ks) b
heard_below given ks (Ended c) bytes above b = below_same given ks _ (map_same (at_conn c with_end) (at_keeps c with_end (λ k. refl)) ks) b
heard_below given ks Quiet bytes above b = b
heard_below given ks Shut bytes above b = b

dialled_ascends : (is : Settings) (log : List Record) (given : ℕ) (ks : List Client) (answer : Dialled) → MayDial given answer → Ascends ks → AllBelow given ks → Ascends (with_dialled is log ks answer)
dialled_ascends is log given ks (Conn c) may h b = ascends_more given ks (new_link is log c) h b may
dialled_ascends is log given ks NotNow may h b = h

dialled_below : (is : Settings) (log : List Record) (given : ℕ) (ks : List Client) (answer : Dialled) → MayDial given answer → AllBelow given ks → AllBelow (given_dialled given answer) (with_dialled is log ks answer)
dialled_below is log given ks (Conn c) may b = below_append (c + 1) ks (new_link is log c ∷ []) (below_later given (c + 1) (omega (arith, may)) ks b) (omega arith, tt)
dialled_below is log given ks NotNow may b = b

-- the connections behind a round are those that the event left
behind_same : (w : World) (ev : Ev) (bytes : List ℕ) (log : List Record) → SameConns (heard_by w ev bytes) (feed_all w.is log (rounded w ev bytes).looked.clients)
behind_same w ev bytes log =
    let ks = heard_by w ev bytes in
    let r = round_all w.is w.contents w.walk ks in
    feed_same w.is log (look_of w.is w.records r).clients ∙ (look_of_same w.is w.records r ∙ round_same w.is w.contents w.walk ks)

-- ---- all

orders : (es : List Entry) (w : World) → AllCame w es → AreInOrder w → AreInOrder (world_after es w)
orders [] w came h = h
orders (Open at ∷ es) w came h = orders es (happens w (Open at)) came.1 (record { ascend = h.ascend; there = h.there; past = h.past })
orders (Dial host port answer ∷ es) w came h = orders es (happens w (Dial host port answer)) came.1 (record {
  ascend = dialled_ascends w.is w.records w.given w.there answer came.0 h.ascend h.there;
  there = dialled_below w.is w.records w.given w.there answer came.0 h.there;
  past = below_later w.given (given_dialled w.given answer) (dialled_rises w.given answer came.0) w.past h.past;
})
orders (Event paused busy ev bytes ∷ es) w came h =
    let v = happens w (Event paused busy ev bytes) in
    let ks = map unstopped w.there in
    let up = came.0.above in
    let same : SameConns w.there ks = map_same unstopped (λ k. refl) w.there in
    let behind = behind_same w ev bytes v.records in
    orders es v came.1 (record {
      ascend = ascends_same (heard_by w ev bytes) v.there behind (heard_ascends w.given ks ev bytes up (ascends_same w.there ks same h.ascend) (below_same w.given w.there ks same h.there));
      there = below_same (given_after w.given ev) (heard_by w ev bytes) v.there behind (heard_below w.given ks ev bytes up (below_same w.given w.there ks same h.there));
      past = below_later w.given (given_after w.given ev) (rises w.given ev up) w.past h.past;
    })
orders (Send c bytes answer ∷ es) w came h =
    let v = happens w (Send c bytes answer) in
    let same : SameConns w.there v.there = map_same (at_conn c (sent bytes answer)) (at_keeps c (sent bytes answer) (sent_keeps bytes answer)) w.there in
    orders es v came.1 (record { ascend = ascends_same w.there v.there same h.ascend; there = below_same w.given w.there v.there same h.there; past = h.past })
orders (Close c ∷ es) w came h = orders es (happens w (Close c)) came.1 (record { ascend = ascends_filter _ w.there h.ascend; there = below_filter _ w.given w.there h.there; past = below_append w.given w.past _ h.past (below_filter _ w.given w.there h.there) })

-- at every moment of a run
pub all_in_order : (es : List Entry) (is : Settings) (ticks : List ℕ) (opens : List At) (m : Mark) → AllCame (started is ticks opens m) es → AreInOrder (world_after es (started is ticks opens m))
all_in_order es is ticks opens m came = orders es (started is ticks opens m) came (record { ascend = tt; there = tt; past = tt })
