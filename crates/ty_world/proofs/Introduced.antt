-- A link whose master's id wasn't read has fewer than four bytes that weren't looked at; so none that doesn't wait meets a gap.
use Rattle.std.proofs.Common.{◌≡◌, ◌∙◌, ◌<◌, ℕ, Bool, true, false, cond, not, List, [], ◌∷◌, ◌++◌, length, drop, map, refl, sym, ap, subst, arith}
use Rattle.std.specs.Prelude.{◌&&◌, ◌||◌, Ok, Err, nat_eq, nat_lt}
use Rattle.std.specs.Int.{w32, from_be_bytes}
use Rattle.std.specs.List.{list_any, filter}
use Rattle.std.proofs.lemmas.Bool.{or_parts, ltb-true, lt-ltb}
use Rattle.std.proofs.lemmas.List.{append-nil}
use Rattle.tc_base.specs.declared.fields.NotWhole.TheVariants as not_whole
use Rattle.tc_base.specs.Reading.{Front}
use Rattle.tc_io.specs.declared.wire.At.{At}
use Rattle.tc_io.specs.declared.wire.Dialled.{Dialled}
use Rattle.tc_io.specs.declared.wire.Dialled.TheVariants.{Conn, NotNow}
use Rattle.tc_io.specs.declared.wire.Ev.TheVariants.{Shut}
use Rattle.tc_io.specs.declared.wire.Sent.{Sent}
use Rattle.tc_io.specs.declared.wire.Sent.TheVariants.{Took, NotYet, Gone}
use Rattle.tc_io.specs.declared.wire.Entry.{Entry}
use Rattle.tc_io.specs.declared.wire.Entry.TheVariants.{Open, Dial, Event, Send, Close}
use Rattle.tc_model.specs.Contents.{Contents, Walk}
use Rattle.ty_ulog.specs.declared.record.Record.{Record}
use Rattle.ty_ulog.specs.Log.{last_of}
use Rattle.ty_ulog.specs.Records.{record_at}
use Rattle.ty_slave.specs.declared.link.Step.{Step as Look}
use Rattle.ty_slave.specs.declared.link.Step.TheVariants.{Part, Master, Take, Old, Gap, Bad}
use Rattle.ty_slave.specs.Lines.{Line, looked, introduced, is_refusal, stepped, past_id, looks}
use Rattle.ty_world.specs.Answers.{IntroducedAs, AllIntroduced, Introduced, NoLink, Single, is_a_link}
use Rattle.ty_world.specs.Clients.{Client, Role, of_client, of_feed, to_master, is_link, is_fed, is_over, waits, all_sent, has_whole, whole_in, bad_in}
use Rattle.ty_world.specs.Frames.{is_whole}
use Rattle.ty_world.specs.Links.{Looked, dealt, line_of, look_at, look_next, look_all, unmoved}
use Rattle.ty_world.specs.Logs.{Settings, is_replica}
use Rattle.ty_world.specs.Rounds.{Round, round_one, round_all, look_of, fed, fed_by, feed_all}
use Rattle.ty_world.specs.World.{World, Mark, started, unstopped, at_conn, new_link, heard_by, sent, happens, world_after, is_some_waiting, IsRested, AllAsked}
use Rattle.ty_world.proofs.Unlinked.{SameLinks, map_links, at_link, sent_link, round_links, look_of_links, feed_links, none_same, none_filter, heard_none, one_link}
use Rattle.ty_world.proofs.LinkPlayed.{one_is_link}
use Rattle.ty_world.proofs.Linked.{single_same, single_new, single_filter, heard_single, behind_single}
use Rattle.ty_world.proofs.Complete.{behind}

-- ---- a look

-- where the id wasn't read, the bytes are fewer than four, or the link is to be closed
abbrev IsShort : Look × Line → Type 0
IsShort x = x.1.named ≡ false → (c : Contents) (w : Walk) → (dealt x.0 c w).broken ≡ false → length x.1.unread < 4

looked_short : (q : Line) (f : Front Record) → q.named ≡ true → IsShort (looked q f)
looked_short q (Ok x) e n c w b = absurd cc
looked_short q (Err not_whole.Part) e n c w b = absurd cc
looked_short q (Err not_whole.Bad) e n c w b = absurd cc

introduced_short : (q : Line) → IsShort (introduced q)
introduced_short q = go (is_refusal q.unread) (nat_lt (length q.unread) 4) (nat_eq (from_be_bytes w32 q.unread) q.own) refl
  where
    go : (a b c : Bool) → nat_lt (length q.unread) 4 ≡ b → IsShort (cond {A = Look × Line} a (Bad, q) (cond b (Part, q) (cond c (Bad, q) (Master (from_be_bytes w32 q.unread), record q { named = true; unread = drop 4 q.unread }))))
    go true b c e n d w x = absurd cc
    go false true c e n d w x = ltb-true _ _ e
    go false false true e n d w x = absurd cc
    go false false false e n d w x = absurd cc

stepped_short : (q : Line) → IsShort (stepped q)
unfolding stepped
stepped_short q = go q.named refl
  where
    go : (b : Bool) → q.named ≡ b → IsShort (cond b (looked q (record_at q.unread)) (introduced q))
    go true e = looked_short q (record_at q.unread) e
    go false e = introduced_short q

looks_short : (q : Line) → IsShort (looks q)
looks_short q = go (stepped q).0 (stepped q).1 (stepped_short q)
  where
    go : (s : Look) (m : Line) → IsShort (s, m) → IsShort (past_id s (s, m))
    go Part m h = h
    go (Master id) m h = stepped_short m
    go (Take r) m h = h
    go Old m h = h
    go (Gap a b) m h = h
    go Bad m h = h

seen_short : (x : Look × Line) (c : Contents) (w : Walk) (broken : Bool) (k : Client) → IsShort x → k.unread ≡ x.1.unread → IntroducedAs (to_master x.1.named (broken || (dealt x.0 c w).broken)) k
seen_short x c w broken k h same = go x.1.named broken (dealt x.0 c w).broken refl refl
  where
    go : (n a b : Bool) → x.1.named ≡ n → (dealt x.0 c w).broken ≡ b → IntroducedAs (to_master n (a || b)) k
    go true a b e f = tt
    go false true b e f = tt
    go false false true e f = tt
    go false false false e f = let s = h e c w f in omega (arith, s, ap length same)

-- ---- lists

none_introduced : (ks : List Client) → NoLink ks → AllIntroduced ks
none_introduced [] h = tt
none_introduced (k ∷ ks) h = let s = or_parts (is_link k.role) (list_any is_a_link ks) h in (go k.role s.0, none_introduced ks s.1)
  where
    go : (r : Role) → is_link r ≡ false → IntroducedAs r k
    go of_client e = tt
    go (of_feed above base) e = tt
    go (to_master named broken) e = absurd cc

look_introduced : (own held : ℕ) (c : Contents) (w : Walk) (ks : List Client) → Single ks → AllIntroduced (look_all own held c w ks).clients
unfolding look_at
look_introduced own held c w [] one = tt
look_introduced own held c w (k ∷ ks) one = go k.role refl (look_introduced own held c w ks one.1)
  where
    go : (r : Role) → k.role ≡ r → AllIntroduced (look_all own held c w ks).clients → AllIntroduced (look_next own held c w r k ks (look_all own held c w ks)).clients
    go of_client e rest = (subst (λ (r : Role). IntroducedAs r k) (sym e) tt, rest)
    go (of_feed above base) e rest = (subst (λ (r : Role). IntroducedAs r k) (sym e) tt, rest)
    go (to_master named broken) e rest = (let q = line_of own held named k in seen_short (looks q) c w broken _ (looks_short q) refl, none_introduced ks (one.0 (ap is_link e)))

fed_introduced : (log : List Record) (k : Client) → IntroducedAs k.role k → IntroducedAs (fed log k).role (fed log k)
fed_introduced log k h = go k.role refl
  where
    go : (r : Role) → k.role ≡ r → IntroducedAs (fed_by log r k).role (fed_by log r k)
    go of_client e = h
    go (of_feed stamp base) e = subst (λ (r : Role). IntroducedAs r (fed_by log (of_feed stamp base) k)) (sym e) tt
    go (to_master named broken) e = h

feds_introduced : (log : List Record) (ks : List Client) → AllIntroduced ks → AllIntroduced (map (fed log) ks)
feds_introduced log [] h = tt
feds_introduced log (k ∷ ks) h = (fed_introduced log k h.0, feds_introduced log ks h.1)

feed_introduced : (is : Settings) (log : List Record) (ks : List Client) → AllIntroduced ks → AllIntroduced (feed_all is log ks)
feed_introduced is log ks h = go is.logs
  where
    go : (b : Bool) → AllIntroduced (cond b (map (fed log) ks) ks)
    go true = feds_introduced log ks h
    go false = h

behind_introduced : (is : Settings) (log more : List Record) (w : World) (ks : List Client) → Single ks → (is_replica is ≡ false → NoLink ks) → AllIntroduced (behind is log more w ks)
behind_introduced is log more w ks one alone = feed_introduced is more (look_of is log r).clients (go (is_replica is) refl)
  where
    r : Round
    r = round_all is w.contents w.walk ks

    same : SameLinks ks r.clients
    same = round_links is w.contents w.walk ks

    go : (b : Bool) → is_replica is ≡ b → AllIntroduced (cond {A = Looked} b (look_all is.own (last_of 0 log) r.made.contents r.made.walk r.clients) (record { dealt_is = unmoved r.made.contents r.made.walk false; clients = r.clients })).clients
    go true e = look_introduced is.own (last_of 0 log) r.made.contents r.made.walk r.clients (single_same ks r.clients same one)
    go false e = none_introduced r.clients (none_same ks r.clients same (alone e))

behind_none : (is : Settings) (log more : List Record) (w : World) (ks : List Client) → NoLink ks → NoLink (behind is log more w ks)
behind_none is log more w ks h =
    let r = round_all is w.contents w.walk ks in
    none_same (look_of is log r).clients _ (feed_links is more (look_of is log r).clients) (none_same r.clients _ (look_of_links is log r) (none_same ks _ (round_links is w.contents w.walk ks) h))

sent_introduced : (c : ℕ) (bytes : List ℕ) (answer : Sent) (ks : List Client) → AllIntroduced ks → AllIntroduced (map (at_conn c (sent bytes answer)) ks)
sent_introduced c bytes answer [] h = tt
sent_introduced c bytes answer (k ∷ ks) h = (go (nat_eq k.conn c), sent_introduced c bytes answer ks h.1)
  where
    same : (r : Role) (j : Client) → j.unread ≡ k.unread → IntroducedAs r k → IntroducedAs r j
    same of_client j e h = tt
    same (of_feed above base) j e h = tt
    same (to_master true broken) j e h = tt
    same (to_master false true) j e h = tt
    same (to_master false false) j e h = omega (arith, h, ap length e)

    one : (answer : Sent) → IntroducedAs (sent bytes answer k).role (sent bytes answer k)
    one (Took n) = same k.role (sent bytes (Took n) k) refl h.0
    one NotYet = same k.role (sent bytes NotYet k) refl h.0
    one Gone = same k.role (sent bytes Gone k) refl h.0

    go : (b : Bool) → IntroducedAs (cond b (sent bytes answer k) k).role (cond b (sent bytes answer k) k)
    go true = one answer
    go false = h.0

filter_introduced : (p : Client → Bool) (ks : List Client) → AllIntroduced ks → AllIntroduced (filter p ks)
filter_introduced p [] h = tt
filter_introduced p (k ∷ ks) h = go (p k) (filter_introduced p ks h.1)
  where
    go : (b : Bool) → AllIntroduced (filter p ks) → AllIntroduced (cond b (k ∷ filter p ks) (filter p ks))
    go true r = (h.0, r)
    go false r = r

more_introduced : (ks ls : List Client) → AllIntroduced ks → AllIntroduced ls → AllIntroduced (ks ++ ls)
more_introduced [] ls h g = g
more_introduced (k ∷ ks) ls h g = (h.0, more_introduced ks ls h.1 g)

-- ---- entries

due_parts : (a b c : Bool) → (a && (b && not c)) ≡ true → (a ≡ true) × (c ≡ false)
due_parts true true false e = (refl, refl)
due_parts true true true e = absurd cc
due_parts true false c e = absurd cc
due_parts false b c e = absurd cc

dialled_so : (w : World) (host : List ℕ) (port : ℕ) (answer : Dialled) → (is_replica w.is ≡ true) × NoLink w.there → Introduced w → Introduced (happens w (Dial host port answer))
dialled_so w host port NotNow due h = record { single = h.single; alone = h.alone; short = h.short }
dialled_so w host port (Conn c) due h = record {
  single = single_new w.there (new_link w.is w.records c) due.1;
  alone = λ e. absurd (let f = sym due.0 ∙ e in cc);
  short = more_introduced w.there (new_link w.is w.records c ∷ []) h.short (omega arith, tt);
}

pub introduces : (es : List Entry) (w : World) → AllAsked w es → Introduced w → Introduced (world_after es w)
introduces [] w asked h = h
introduces (Open at ∷ es) w asked h = introduces es (happens w (Open at)) asked.1 (record { single = h.single; alone = h.alone; short = h.short })
introduces (Dial host port answer ∷ es) w asked h =
    introduces es (happens w (Dial host port answer)) asked.1 (dialled_so w host port answer (due_parts (is_replica w.is) w.due (list_any is_a_link w.there) asked.0.2) h)
introduces (Event paused busy ev bytes ∷ es) w asked h =
    let v = happens w (Event paused busy ev bytes) in
    let ks = heard_by w ev bytes in
    let us = map unstopped w.there in
    let same : SameLinks w.there us = map_links unstopped (λ k. refl) w.there in
    let one : Single ks = heard_single us ev bytes (single_same w.there us same h.single) in
    let alone = λ (e : is_replica w.is ≡ false). heard_none us ev bytes (none_same w.there us same (h.alone e)) in
    introduces es v asked.1 (record {
      single = behind_single w.is w.records v.records w ks one;
      alone = λ e. behind_none w.is w.records v.records w ks (alone e);
      short = behind_introduced w.is w.records v.records w ks one alone;
    })
introduces (Send c bytes answer ∷ es) w asked h =
    let v = happens w (Send c bytes answer) in
    let same : SameLinks w.there v.there = map_links (at_conn c (sent bytes answer)) (at_link c (sent bytes answer) (sent_link bytes answer)) w.there in
    introduces es v asked.1 (record { single = single_same w.there v.there same h.single; alone = λ e. none_same w.there v.there same (h.alone e); short = sent_introduced c bytes answer w.there h.short })
introduces (Close c ∷ es) w asked h =
    introduces es (happens w (Close c)) asked.1 (record { single = single_filter _ w.there h.single; alone = λ e. none_filter _ w.there (h.alone e); short = filter_introduced _ w.there h.short })

pub all_introduced : (es : List Entry) (is : Settings) (ticks : List ℕ) (opens : List At) (m : Mark) → AllAsked (started is ticks opens m) es → Introduced (world_after es (started is ticks opens m))
all_introduced es is ticks opens m asked = introduces es (started is ticks opens m) asked (record { single = tt; alone = λ e. refl; short = tt })

-- ---- no gap

-- a link that doesn't wait, and isn't to be closed
abbrev StillAs : Role → Client → Type 0
StillAs of_client k = Unit {0}
StillAs (of_feed above base) k = Unit {0}
StillAs (to_master named broken) k = ((named && is_whole (record_at k.unread)) ≡ false) × (named ≡ false → length k.unread < 4)

abbrev AllStill : List Client → Type 0
AllStill [] = Unit {0}
AllStill (k ∷ ks) = StillAs k.role k × AllStill ks

are_still : (ks : List Client) → list_any waits ks ≡ false → list_any is_over ks ≡ false → AllIntroduced ks → AllStill (map unstopped ks)
are_still [] w o h = tt
are_still (k ∷ ks) w o h =
    let a = or_parts (waits k) (list_any waits ks) w in
    let b = or_parts (is_over k) (list_any is_over ks) o in
    let whole : whole_in k.role k.unread ≡ false = (or_parts (not (is_fed k.role) && not (all_sent k)) (has_whole k) a.0).1 in
    (go k.role h.0 whole (or_parts k.extra _ (or_parts k.gone _ b.0).1).1, are_still ks a.1 b.1 h.1)
  where
    short : (n b : Bool) → n ≡ false → b ≡ false → IntroducedAs (to_master n b) k → length k.unread < 4
    short false false e f i = i
    short true b e f i = absurd cc
    short false true e f i = absurd cc

    go : (r : Role) → IntroducedAs r k → whole_in r k.unread ≡ false → ((is_link r || all_sent k) && (bad_in r k.unread || (k.ended && not (whole_in r k.unread)))) ≡ false → StillAs r (unstopped k)
    go of_client i w o = tt
    go (of_feed above base) i w o = tt
    go (to_master named broken) i w o = (w, λ unnamed. short named broken unnamed (or_parts broken _ (or_parts (bad_in (to_master named broken) k.unread) _ o).0).0 i)

other_still : (r : Role) (j : Client) → is_link r ≡ false → StillAs r j
other_still of_client j e = tt
other_still (of_feed above base) j e = tt
other_still (to_master named broken) j e = absurd cc

round_still : (is : Settings) (c : Contents) (w : Walk) (ks : List Client) → AllStill ks → AllStill (round_all is c w ks).clients
round_still is c w [] h = tt
round_still is c w (k ∷ ks) h = let one = (round_one is c w k).made in (go (is_link k.role) refl, round_still is one.contents one.walk ks h.1)
  where
    go : (b : Bool) → is_link k.role ≡ b → StillAs (round_one is c w k).client.role (round_one is c w k).client
    go true e = subst (λ (j : Client). StillAs j.role j) (sym (one_is_link is c w k e)) h.0
    go false e = other_still (round_one is c w k).client.role (round_one is c w k).client (one_link is c w k ∙ e)

-- it isn't looked at any further
abbrev StopsThere : Look → Type 0
StopsThere Part = Unit {0}
StopsThere Bad = Unit {0}
StopsThere _ = ⊥

stepped_stops : (q : Line) → (q.named && is_whole (record_at q.unread)) ≡ false → (q.named ≡ false → length q.unread < 4) → StopsThere (stepped q).0
unfolding stepped
stepped_stops q w short = go q.named refl
  where
    front : (f : Front Record) → is_whole f ≡ false → StopsThere (looked q f).0
    front (Ok x) e = absurd cc
    front (Err not_whole.Part) e = tt
    front (Err not_whole.Bad) e = tt

    id : (a b c : Bool) → b ≡ true → StopsThere (cond {A = Look × Line} a (Bad, q) (cond b (Part, q) (cond c (Bad, q) (Master (from_be_bytes w32 q.unread), record q { named = true; unread = drop 4 q.unread })))).0
    id true b c e = tt
    id false true c e = tt
    id false false c e = absurd cc

    go : (b : Bool) → q.named ≡ b → StopsThere (cond b (looked q (record_at q.unread)) (introduced q)).0
    go true e = front (record_at q.unread) (ap (λ (b : Bool). b && is_whole (record_at q.unread)) (sym e) ∙ w)
    go false e = id (is_refusal q.unread) (nat_lt (length q.unread) 4) (nat_eq (from_be_bytes w32 q.unread) q.own) (lt-ltb _ _ (short e))

looks_stops : (q : Line) → StopsThere (stepped q).0 → (c : Contents) (w : Walk) → (dealt (looks q).0 c w).gap ≡ []
looks_stops q h c w = go (stepped q).0 (stepped q).1 h
  where
    go : (s : Look) (m : Line) → StopsThere s → (dealt (past_id s (s, m)).0 c w).gap ≡ []
    go Part m h = refl
    go Bad m h = refl
    go (Master id) m h = absurd h
    go (Take r) m h = absurd h
    go Old m h = absurd h
    go (Gap a b) m h = absurd h

look_none : (own held : ℕ) (c : Contents) (w : Walk) (ks : List Client) → AllStill ks → (look_all own held c w ks).dealt_is.gap ≡ []
unfolding look_at
look_none own held c w [] h = refl
look_none own held c w (k ∷ ks) h = go k.role h.0 (look_none own held c w ks h.1)
  where
    go : (r : Role) → StillAs r k → (look_all own held c w ks).dealt_is.gap ≡ [] → (look_next own held c w r k ks (look_all own held c w ks)).dealt_is.gap ≡ []
    go of_client s rest = rest
    go (of_feed above base) s rest = rest
    go (to_master named broken) s rest = let q = line_of own held named k in looks_stops q (stepped_stops q s.0 s.1) c w

-- the last event meets none
pub last_gap : (w : World) (paused : List ℕ) (busy : Bool) (bytes : List ℕ) → AllIntroduced w.there → IsRested w → is_some_waiting w ≡ false → (happens w (Event paused busy Shut bytes)).gaps ≡ w.gaps
last_gap w paused busy bytes h rested none = ap (λ (g : List (ℕ × ℕ)). w.gaps ++ g) (go (is_replica w.is)) ∙ append-nil w.gaps
  where
    r : Round
    r = round_all w.is w.contents w.walk (map unstopped w.there)

    go : (b : Bool) → (cond {A = Looked} b (look_all w.is.own (last_of 0 w.records) r.made.contents r.made.walk r.clients) (record { dealt_is = unmoved r.made.contents r.made.walk false; clients = r.clients })).dealt_is.gap ≡ []
    go true = look_none w.is.own (last_of 0 w.records) r.made.contents r.made.walk r.clients (round_still w.is w.contents w.walk (map unstopped w.there) (are_still w.there none rested.1 h))
    go false = refl
