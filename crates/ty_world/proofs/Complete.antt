-- With enough turns a script that no master answers is played to its end.
use Rattle.std.proofs.Common.{◌≡◌, ◌⊎◌, inl, inr, ℕ, ◌+◌, ◌≤◌, Bool, true, false, not, cond, List, [], ◌∷◌, length, refl, sym, ap, subst, ◌∙◌, arith, map, ⊎_elim}
use Rattle.std.specs.Prelude.{◌||◌, nat_eq}
use Rattle.std.specs.List.{list_any, filter}
use Rattle.std.proofs.lemmas.Map.Views.{any-filter_same}
use Rattle.std.proofs.lemmas.Bool.{eqb-true, or_parts}
use Rattle.tc_io.specs.declared.wire.At.{At}
use Rattle.tc_io.specs.declared.wire.Dialled.{Dialled}
use Rattle.tc_io.specs.declared.wire.Dialled.TheVariants.{NotNow}
use Rattle.tc_io.specs.declared.wire.Ev.{Ev}
use Rattle.tc_io.specs.declared.wire.Ev.TheVariants as event
use Rattle.tc_io.specs.declared.wire.Sent.{Sent}
use Rattle.tc_io.specs.declared.wire.Sent.TheVariants.{Took}
use Rattle.tc_io.specs.declared.act.Act.{Act}
use Rattle.tc_io.specs.declared.wire.Entry.{Entry}
use Rattle.tc_io.specs.declared.wire.Entry.TheVariants.{Open, Dial, Event, Send, Close}
use Rattle.tc_io.specs.Lines.{has}
use Rattle.tc_io.specs.Script.{Script, Lines, next_act, next_dial, lines_after, played, Agrees, plays_all, AllAgree}
use Rattle.ty_ulog.specs.declared.record.Record.{Record}
use Rattle.ty_world.specs.Answers.{NoLink}
use Rattle.ty_world.specs.Clients.{Client, waits, is_link}
use Rattle.ty_world.specs.Logs.{Settings}
use Rattle.ty_world.specs.Rounds.{round_all, round_of_all, look_of, feed_all}
use Rattle.ty_world.specs.World.{World, Mark, started, with_round, unstopped, heard, sent, at_conn, dialled, happens, world_after, one_if, shut_after, should_pause, is_some_waiting, IsRested, AsksRight, AllAsked}
use Rattle.ty_world.specs.Measure.{requests_in, left_of, total, measure}
use Rattle.ty_world.specs.Playing.{Fits, AllFit, Meets, unplayed}
use Rattle.ty_world.proofs.Events.{Out, next_out, next_meets}
use Rattle.ty_world.proofs.Rounds.{will_serve, all_served_fit, round_falls, look_of_leaves, look_of_fits, feed_leaves, feed_fits, waiting_served}
use Rattle.ty_world.proofs.Unlinked.{none_same, none_filter, none_waits, heard_none, map_links, at_link, sent_link, round_links, look_of_links, feed_links}

-- where the machine and the script stand behind entries: what is left has fallen with each event
pub record Falls (w : World) (s : Script) (w' : World) (s' : Script) : Type 0 where
  pub meets : Meets s'.lines w'.there
  pub falls : w'.shut ≡ false → w'.events + measure w'.there s'.acts s'.lines ≤ w.events + measure w.there s.acts s.lines
  pub played_out : w.shut ≡ false → w'.shut ≡ true → s'.acts ≡ []
  pub stays : w.shut ≡ true → w'.shut ≡ true
  pub kept_out : w.shut ≡ true → s'.acts ≡ s.acts
  pub undialled : s'.dials ≡ []
  pub none : NoLink w'.there

-- ---- what waits

pub mapped_any : (ks : List Client) (c : ℕ) → has (map (λ k. k.conn) (filter waits ks)) c ≡ true → list_any waits ks ≡ true
mapped_any [] c e = absurd cc
mapped_any (k ∷ ks) c e = go (waits k) (mapped_any ks c) e
  where
    go : (b : Bool) → (has (map (λ (k : Client). k.conn) (filter waits ks)) c ≡ true → list_any waits ks ≡ true) → has (map (λ (k : Client). k.conn) (cond b (k ∷ filter waits ks) (filter waits ks))) c ≡ true → (b || list_any waits ks) ≡ true
    go true ih f = refl
    go false ih f = ih f

same_unstopped : (l : Lines) (ks : List Client) → AllFit l ks → NoLink ks → map unstopped ks ≡ ks
same_unstopped l [] h none = refl
same_unstopped l (k ∷ ks) h none =
    let s = or_parts (is_link k.role) _ none in
    ap (λ (b : Bool). record k { stopped = b } ∷ map unstopped ks) (sym (h.0.going s.0)) ∙ ap (λ (r : List Client). k ∷ r) (same_unstopped l ks h.1 s.1)

-- ---- an event

pub one_is : (b : Bool) → b ≡ true → one_if b ≡ 1
one_is true e = refl
one_is false e = absurd cc

pub not_shut : (ev : Ev) (b : Bool) → b ≡ false → shut_after b ev ≡ true → ev ≡ event.Shut
not_shut (event.Opened c) b e f = absurd cc
not_shut (event.Read c n) b e f = absurd cc
not_shut (event.Ended c) b e f = absurd cc
not_shut event.Quiet b e f = absurd cc
not_shut event.Shut b e f = refl

stays_shut : (ev : Ev) → shut_after true ev ≡ true
stays_shut (event.Opened c) = refl
stays_shut (event.Read c n) = refl
stays_shut (event.Ended c) = refl
stays_shut event.Quiet = refl
stays_shut event.Shut = refl

pub is_shut : (ev : Ev) (b : Bool) → ev ≡ event.Shut → shut_after b ev ≡ true
is_shut ev b is = ap (shut_after b) is

-- the connections behind a round, where these were heard
abbrev pub behind : Settings → List Record → List Record → World → List Client → List Client
behind is log more w ks = feed_all is more (look_of is log (round_all is w.contents w.walk ks)).clients

pub behind_falls : (acts : List Act) (is : Settings) (log more : List Record) (w : World) (ks : List Client) → total acts (behind is log more w ks) + one_if (list_any will_serve ks) ≤ total acts ks
behind_falls acts is log more w ks =
    let r = round_all is w.contents w.walk ks in
    let a = round_falls is acts w.contents w.walk ks in
    let b = look_of_leaves acts is log r in
    let c = feed_leaves acts is more (look_of is log r).clients in
    omega (arith, a, b, c)

pub behind_fits : (l : Lines) (is : Settings) (log more : List Record) (w : World) (ks : List Client) → AllFit l ks → AllFit l (behind is log more w ks)
behind_fits l is log more w ks h =
    let r = round_all is w.contents w.walk ks in
    feed_fits l is more (look_of is log r).clients (look_of_fits l is log r (all_served_fit l is w.contents w.walk ks h))

behind_none : (is : Settings) (log more : List Record) (w : World) (ks : List Client) → NoLink ks → NoLink (behind is log more w ks)
behind_none is log more w ks h =
    let r = round_all is w.contents w.walk ks in
    none_same (look_of is log r).clients _ (feed_links is more (look_of is log r).clients) (none_same r.clients _ (look_of_links is log r) (none_same ks _ (round_links is w.contents w.walk ks) h))

-- what it does to the measure, whatever else it does
abbrev pub EventFalls : World → Script → Ev → List ℕ → List Act → List Record → Type 0
EventFalls w s ev bytes left more =
    let ks = behind w.is w.records more w (heard w.there ev bytes) in
    let l = lines_after s.lines ev in
    Meets l ks × (shut_after w.shut ev ≡ false → measure ks left l + 1 ≤ measure w.there s.acts s.lines) × (shut_after w.shut ev ≡ true → left ≡ [])

event_falls : (w : World) (s : Script) (paused : List ℕ) (busy : Bool) (more : List Record) → Meets s.lines w.there → NoLink w.there → IsRested w → paused ≡ should_pause w → busy ≡ is_some_waiting w → w.shut ≡ false
    → let n = next_act s.acts s.lines paused busy in EventFalls w s n.0 n.1 n.2 more
event_falls w s paused busy more h none rested asked is_busy on = go (next_out s.lines w.there s.acts paused busy h)
  where
    n : Ev × List ℕ × List Act
    n = next_act s.acts s.lines paused busy

    ks : List Client
    ks = heard w.there n.0 n.1

    l : Lines
    l = lines_after s.lines n.0

    met : Meets l ks
    met = next_meets s.lines w.there s.acts paused busy h

    all : Meets l (behind w.is w.records more w ks)
    all = record { each = behind_fits l w.is w.records more w ks met.each; fresh = met.fresh }

    less : total n.2 (behind w.is w.records more w ks) + one_if (list_any will_serve ks) ≤ total n.2 ks
    less = behind_falls n.2 w.is w.records more w ks

    waiting : (busy ≡ true) ⊎ ((c : ℕ) × (has paused c ≡ true)) → is_some_waiting w ≡ true
    waiting (inl is) = sym is_busy ∙ is
    waiting (inr x) = mapped_any w.there x.0 (ap (λ (p : List ℕ). has p x.0) (sym asked) ∙ x.1)

    serves : is_some_waiting w ≡ true → list_any will_serve w.there ≡ true
    serves e = ⊎_elim (λ a. a) (λ b. absurd (let f = sym (none_waits w.there none) ∙ b in cc)) (waiting_served s.lines w.there h.each rested.0 e)

    go : Out w.there s.lines paused busy n (measure w.there s.acts s.lines) → EventFalls w s n.0 n.1 n.2 more
    go (inl end) = (all, λ e. absurd (let f = is_shut n.0 w.shut end.0 in cc), λ e. end.1)
    go (inr (inl falls)) = (all, λ e. omega (arith, falls.0, less), λ e. absurd (falls.1 (not_shut n.0 w.shut on e)))
    go (inr (inr kept)) =
        let same : ks ≡ w.there = ap (λ (ev : Ev). heard w.there ev n.1) kept.0 in
        let one : one_if (list_any will_serve ks) ≡ 1 = ap (λ (k : List Client). one_if (list_any will_serve k)) same ∙ one_is _ (serves (waiting kept.2)) in
        let still : total n.2 ks ≡ total n.2 w.there = ap (total n.2) same in
        let given : l.given ≡ s.lines.given = ap (λ (ev : Ev). (lines_after s.lines ev).given) kept.0 in
        let to_come : requests_in l.given n.2 ≡ requests_in s.lines.given n.2 = ap (λ (g : ℕ). requests_in g n.2) given in
        (all, λ e. omega (arith, kept.1, less, one, still, to_come), λ e. absurd (let f = not_shut n.0 w.shut on e in let q = kept.0 in cc))

-- ---- sends and closes

sent_fits : (l : Lines) (k : Client) (bytes : List ℕ) (answer : Sent) (b : Bool) → answer ≡ Took (length bytes) → Fits l k → Fits l (cond b (sent bytes answer k) k)
sent_fits l k bytes answer false is h = h
sent_fits l k bytes answer true is h = subst (λ (a : Sent). Fits l (sent bytes a k)) (sym is) (record { listed = h.listed; ends = h.ends; below = h.below; here = h.here; going = λ e. refl })

sent_left : (acts : List Act) (k : Client) (bytes : List ℕ) (answer : Sent) (b : Bool) → answer ≡ Took (length bytes) → left_of acts (cond b (sent bytes answer k) k) ≡ left_of acts k
sent_left acts k bytes answer false is = refl
sent_left acts k bytes answer true is = ap (λ (a : Sent). left_of acts (sent bytes a k)) is

pub sends_fit : (l : Lines) (c : ℕ) (bytes : List ℕ) (answer : Sent) (ks : List Client) → answer ≡ Took (length bytes) → AllFit l ks → AllFit l (map (at_conn c (sent bytes answer)) ks)
sends_fit l c bytes answer [] is h = tt
sends_fit l c bytes answer (k ∷ ks) is h = (sent_fits l k bytes answer (nat_eq k.conn c) is h.0, sends_fit l c bytes answer ks is h.1)

pub sends_leave : (acts : List Act) (c : ℕ) (bytes : List ℕ) (answer : Sent) (ks : List Client) → answer ≡ Took (length bytes) → total acts (map (at_conn c (sent bytes answer)) ks) ≡ total acts ks
sends_leave acts c bytes answer [] is = refl
sends_leave acts c bytes answer (k ∷ ks) is = let a = sent_left acts k bytes answer (nat_eq k.conn c) is in let b = sends_leave acts c bytes answer ks is in omega (arith, a, b)

abbrev closed_lines : Lines → ℕ → Lines
closed_lines l c = record { conns = filter (λ d. not (nat_eq d c)) l.conns; ended = filter (λ d. not (nat_eq d c)) l.ended; given = l.given }

other_listed : (xs : List ℕ) (c d : ℕ) → nat_eq d c ≡ false → has (filter (λ e. not (nat_eq e c)) xs) d ≡ has xs d
other_listed xs c d other = any-filter_same (nat_eq d) (λ e. not (nat_eq e c)) true (λ e is. ap (λ (x : ℕ). not (nat_eq x c)) (sym (eqb-true d e is)) ∙ ap not other) xs

pub fewer_listed : (xs : List ℕ) (c d : ℕ) → has xs d ≡ false → has (filter (λ e. not (nat_eq e c)) xs) d ≡ false
fewer_listed [] c d none = refl
fewer_listed (x ∷ xs) c d none = go (nat_eq x c) (nat_eq d x) refl none (fewer_listed xs c d)
  where
    go : (b e : Bool) → nat_eq d x ≡ e → (e || has xs d) ≡ false → (has xs d ≡ false → has (filter (λ e. not (nat_eq e c)) xs) d ≡ false) → has (cond (not b) (x ∷ filter (λ e. not (nat_eq e c)) xs) (filter (λ e. not (nat_eq e c)) xs)) d ≡ false
    go b true is f ih = absurd cc
    go true false is f ih = ih f
    go false false is f ih = ap (λ (b : Bool). b || has (filter (λ e. not (nat_eq e c)) xs) d) is ∙ ih f

pub close_fits : (l : Lines) (c : ℕ) (ks : List Client) → AllFit l ks → AllFit (closed_lines l c) (filter (λ k. not (nat_eq k.conn c)) ks)
close_fits l c [] h = tt
close_fits l c (k ∷ ks) h = go (nat_eq k.conn c) refl (close_fits l c ks h.1)
  where
    go : (b : Bool) → nat_eq k.conn c ≡ b → AllFit (closed_lines l c) (filter (λ k. not (nat_eq k.conn c)) ks) → AllFit (closed_lines l c) (cond (not b) (k ∷ filter (λ k. not (nat_eq k.conn c)) ks) (filter (λ k. not (nat_eq k.conn c)) ks))
    go true is rest = rest
    go false is rest = (record { listed = other_listed l.conns c k.conn is ∙ h.0.listed; ends = h.0.ends ∙ sym (other_listed l.ended c k.conn is); below = h.0.below; here = h.0.here; going = h.0.going }, rest)

pub close_leaves : (acts : List Act) (c : ℕ) (ks : List Client) → total acts (filter (λ k. not (nat_eq k.conn c)) ks) ≤ total acts ks
close_leaves acts c [] = omega arith
close_leaves acts c (k ∷ ks) = go (nat_eq k.conn c) (close_leaves acts c ks)
  where
    go : (b : Bool) → total acts (filter (λ k. not (nat_eq k.conn c)) ks) ≤ total acts ks → total acts (cond (not b) (k ∷ filter (λ k. not (nat_eq k.conn c)) ks) (filter (λ k. not (nat_eq k.conn c)) ks)) ≤ left_of acts k + total acts ks
    go true rest = omega (arith, rest)
    go false rest = omega (arith, rest)

-- ---- one entry, and all

-- a dial of a script that has no answers opens nothing
dial_falls : (w : World) (s : Script) (host : List ℕ) (port : ℕ) (answer : Dialled) → s.dials ≡ [] → Meets s.lines w.there → NoLink w.there → answer ≡ (next_dial s.dials s.lines).0 → Falls w s (happens w (Dial host port answer)) (played s (Dial host port answer))
dial_falls w s host port answer nil h none agrees = subst (λ (x : Dialled). Falls w s (dialled w x) (played s (Dial host port x))) (sym later) (record {
  meets = h;
  falls = λ on. omega arith;
  played_out = λ on off. absurd cc;
  stays = λ off. off;
  kept_out = λ off. refl;
  undialled = ap (λ (d : List Dialled). (next_dial d s.lines).1) nil;
  none = none;
})
  where
    later : answer ≡ NotNow
    later = agrees ∙ ap (λ (d : List Dialled). (next_dial d s.lines).0) nil

pub entry_falls : (e : Entry) (w : World) (s : Script) → s.dials ≡ [] → Meets s.lines w.there → NoLink w.there → AsksRight w e → Agrees s e → Falls w s (happens w e) (played s e)
entry_falls (Open at) w s nil h none asked agrees = record { meets = h; falls = λ on. omega arith; played_out = λ on off. absurd cc; stays = λ off. off; kept_out = λ off. refl; undialled = nil; none = none }
entry_falls (Dial host port answer) w s nil h none asked agrees = dial_falls w s host port answer nil h none agrees
entry_falls (Event paused busy ev bytes) w s nil h none asked agrees =
    subst (λ (x : Ev). Falls w s (happens w (Event paused busy x bytes)) (played s (Event paused busy x bytes))) (sym agrees.0)
    (subst (λ (b : List ℕ). Falls w s (happens w (Event paused busy n.0 b)) (played s (Event paused busy n.0 b))) (sym agrees.1)
    (go (map unstopped w.there) (same_unstopped s.lines w.there h.each none)))
  where
    n : Ev × List ℕ × List Act
    n = next_act s.acts s.lines paused busy

    -- behind the event, whose clients these are
    after : List Client → World
    after ks = with_round w n.0 (heard ks n.0 n.1) (round_of_all w.is w.records w.contents w.walk (heard ks n.0 n.1))

    go : (ks : List Client) → ks ≡ w.there → Falls w s (after ks) (record { acts = n.2; dials = s.dials; lines = lines_after s.lines n.0 })
    go ks is = subst (λ (k : List Client). Falls w s (after k) (record { acts = n.2; dials = s.dials; lines = lines_after s.lines n.0 })) (sym is)
        (let f = event_falls w s paused busy (after w.there).records h none asked.rested asked.pauses asked.busily asked.running in
        record {
          meets = f.0;
          falls = λ on. (let g = f.1 on in omega (arith, g));
          played_out = λ on off. f.2 off;
          stays = λ off. absurd (let o = asked.running in cc);
          kept_out = λ off. absurd (let o = asked.running in cc);
          undialled = nil;
          none = behind_none w.is w.records (after w.there).records w (heard w.there n.0 n.1) (heard_none w.there n.0 n.1 none);
        })
entry_falls (Send c bytes answer) w s nil h none asked agrees = record {
  meets = record { each = sends_fit s.lines c bytes answer w.there agrees h.each; fresh = h.fresh };
  falls = λ on. (let a = sends_leave s.acts c bytes answer w.there agrees in omega (arith, a));
  played_out = λ on off. absurd cc;
  stays = λ off. off;
  kept_out = λ off. refl;
  undialled = nil;
  none = none_same w.there _ (map_links (at_conn c (sent bytes answer)) (at_link c (sent bytes answer) (sent_link bytes answer)) w.there) none;
}
entry_falls (Close c) w s nil h none asked agrees = record {
  meets = record { each = close_fits s.lines c w.there h.each; fresh = λ d le. (fewer_listed s.lines.conns c d (h.fresh d le).0, fewer_listed s.lines.ended c d (h.fresh d le).1) };
  falls = λ on. (let a = close_leaves s.acts c w.there in omega (arith, a));
  played_out = λ on off. absurd cc;
  stays = λ off. off;
  kept_out = λ off. refl;
  undialled = nil;
  none = none_filter (λ k. not (nat_eq k.conn c)) w.there none;
}

pub falls_then : (w v u : World) (s t r : Script) → Falls w s v t → Falls v t u r → Falls w s u r
falls_then w v u s t r a b = record {
  meets = b.meets;
  falls = λ on. go_falls v.shut refl on;
  played_out = λ on off. go_out v.shut refl on off;
  stays = λ off. b.stays (a.stays off);
  kept_out = λ off. b.kept_out (a.stays off) ∙ a.kept_out off;
  undialled = b.undialled;
  none = b.none;
}
  where
    go_falls : (x : Bool) → v.shut ≡ x → u.shut ≡ false → u.events + measure u.there r.acts r.lines ≤ w.events + measure w.there s.acts s.lines
    go_falls true is on = absurd (let o = b.stays is in cc)
    go_falls false is on = let p = a.falls is in let q = b.falls on in omega (arith, p, q)

    go_out : (x : Bool) → v.shut ≡ x → w.shut ≡ false → u.shut ≡ true → r.acts ≡ []
    go_out true is on off = b.kept_out is ∙ a.played_out on is
    go_out false is on off = b.played_out is off

pub all_fall : (es : List Entry) (w : World) (s : Script) → s.dials ≡ [] → Meets s.lines w.there → NoLink w.there → AllAsked w es → AllAgree s es → Falls w s (world_after es w) (plays_all es s)
all_fall [] w s nil h none asked agrees = record { meets = h; falls = λ on. omega arith; played_out = λ on off. absurd cc; stays = λ off. off; kept_out = λ off. refl; undialled = nil; none = none }
all_fall (e ∷ es) w s nil h none asked agrees =
    let one = entry_falls e w s nil h none asked.0 agrees.0 in
    falls_then w (happens w e) (world_after es (happens w e)) s (played s e) (plays_all es (played s e)) one (all_fall es (happens w e) (played s e) one.undialled one.meets one.none asked.1 agrees.1)

-- a run that isn't at its end had no more turns than the script has events and whole pieces
pub turns_bound : (es : List Entry) (is : Settings) (ticks : List ℕ) (opens : List At) (m : Mark) (acts : List Act) (given : ℕ) → AllAsked (started is ticks opens m) es → AllAgree (unplayed acts given) es → (world_after es (started is ticks opens m)).shut ≡ false → (world_after es (started is ticks opens m)).events ≤ length acts + requests_in given acts
turns_bound es is ticks opens m acts given asked agrees on =
    let f = (all_fall es (started is ticks opens m) (unplayed acts given) refl (record { each = tt; fresh = λ d le. (refl, refl) }) refl asked agrees).falls on in
    omega (arith, f)
