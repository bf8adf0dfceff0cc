-- With enough turns a script is played to its end, also where a master is dialled.
use Rattle.std.proofs.Common.{◌≡◌, ◌⊎◌, inl, inr, ℕ, suc, ◌+◌, ◌≤◌, Bool, true, false, not, cond, List, [], ◌∷◌, ◌++◌, length, drop, map, refl, sym, ap, subst, ◌∙◌, arith, ⊎_elim}
use Rattle.std.specs.Prelude.{◌||◌, ◌&&◌, nat_eq, nat_lt}
use Rattle.std.specs.List.{list_any, filter}
use Rattle.std.proofs.lemmas.Bool.{or_parts, ltb-false, ltb-true}
use Rattle.tc_io.specs.declared.wire.At.{At}
use Rattle.tc_io.specs.declared.wire.Ev.{Ev}
use Rattle.tc_io.specs.declared.wire.Ev.TheVariants as event
use Rattle.tc_io.specs.declared.wire.Dialled.{Dialled}
use Rattle.tc_io.specs.declared.wire.Dialled.TheVariants.{Conn, NotNow}
use Rattle.tc_io.specs.declared.wire.Sent.{Sent}
use Rattle.tc_io.specs.declared.act.Act.{Act}
use Rattle.tc_io.specs.declared.act.Act.TheVariants.{Opened, Read, Ended, Quiet}
use Rattle.tc_io.specs.declared.wire.Entry.{Entry}
use Rattle.tc_io.specs.declared.wire.Entry.TheVariants.{Open, Dial, Event, Send, Close}
use Rattle.tc_io.specs.Lines.{has}
use Rattle.tc_io.specs.Script.{Script, Lines, can_open, next_act, next_dial, lines_after, lines_dialled, played, Agrees, plays_all, AllAgree}
use Rattle.ty_ulog.specs.declared.record.Record.{Record}
use Rattle.ty_world.specs.Answers.{NoLink, Single, is_a_link}
use Rattle.ty_world.specs.Clients.{Client, is_link}
use Rattle.ty_world.specs.Frames.{frames}
use Rattle.ty_world.specs.Logs.{Settings, is_replica}
use Rattle.ty_world.specs.Rounds.{round_all, look_of}
use Rattle.ty_world.specs.World.{World, Mark, started, unstopped, heard, heard_by, sent, at_conn, new_client, new_link, clients_in, with_read, with_end, dialled, happens, world_after, one_if, shut_after, should_pause, is_some_waiting, is_looked_at, IsRested, AsksRight, AllAsked}
use Rattle.ty_world.specs.Measure.{coming, requests_in, total}
use Rattle.ty_world.specs.Playing.{Fits, AllFit, Meets, unplayed_with}
use Rattle.ty_world.proofs.Events.{total_appends, next_meets, opened_meets}
use Rattle.ty_world.proofs.Twice.{twice, Outs, next_outs}
use Rattle.ty_world.proofs.Rounds.{will_serve, waiting_served}
use Rattle.ty_world.proofs.Unlinked.{SameLinks, map_links, at_link, sent_link, round_links, look_of_links, feed_links, none_same, none_more, none_filter}
use Rattle.ty_world.proofs.Complete.{mapped_any, one_is, not_shut, is_shut, behind, behind_falls, behind_fits, sends_fit, sends_leave, fewer_listed, close_fits, close_leaves}
use Rattle.ty_world.proofs.LinkPlayed.{pot, pot_one, LinkMeets, LikeLinks, behind_like, event_meets, quiet_less, quiet_pot, sent_meets, sent_less, closed_meets, closed_less, new_meets, new_pot}

-- what is left of a world and a script: each act twice, each whole piece, and a turn for the link
abbrev pub left_in : World → Script → ℕ
left_in w s = twice w.there s.acts s.lines + pot w.there

pub record FallsBy (w : World) (s : Script) (w' : World) (s' : Script) : Type 0 where
  pub meets : Meets s'.lines w'.there
  pub link : LinkMeets w'.there
  pub single : Single w'.there
  -- but for the events that found a whole record on the link
  pub falls : w'.shut ≡ false → w'.events + left_in w' s' + w.looked ≤ w.events + left_in w s + w'.looked
  pub played_out : w.shut ≡ false → w'.shut ≡ true → s'.acts ≡ []
  pub stays : w.shut ≡ true → w'.shut ≡ true
  pub kept_out : w.shut ≡ true → s'.acts ≡ s.acts

-- ---- one link at most

abbrev first : List Bool → Bool
first [] = false
first (b ∷ bs) = b

pub single_same : (ks ms : List Client) → SameLinks ks ms → Single ks → Single ms
single_same ks [] e h = tt
single_same [] (m ∷ ms) e h = absurd cc
single_same (k ∷ ks) (m ∷ ms) e h = (λ link. none_same ks ms (ap (drop 1) e) (h.0 (sym (ap first e) ∙ link)), single_same ks ms (ap (drop 1) e) h.1)

single_more : (ks : List Client) (k : Client) → is_link k.role ≡ false → Single ks → Single (ks ++ k ∷ [])
single_more [] k e h = (λ link. refl, tt)
single_more (j ∷ ks) k e h = (λ link. none_more ks (k ∷ []) (h.0 link) (ap (λ (b : Bool). b || false) e), single_more ks k e h.1)

pub single_new : (ks : List Client) (k : Client) → NoLink ks → Single (ks ++ k ∷ [])
single_new [] k h = (λ link. refl, tt)
single_new (j ∷ ks) k h = let s = or_parts (is_link j.role) (list_any is_a_link ks) h in (λ link. absurd (let f = sym s.0 ∙ link in cc), single_new ks k s.1)

pub single_filter : (p : Client → Bool) (ks : List Client) → Single ks → Single (filter p ks)
single_filter p [] h = tt
single_filter p (k ∷ ks) h = go (p k) (single_filter p ks h.1)
  where
    go : (b : Bool) → Single (filter p ks) → Single (cond b (k ∷ filter p ks) (filter p ks))
    go true r = (λ link. none_filter p ks (h.0 link), r)
    go false r = r

pub heard_single : (ks : List Client) (ev : Ev) (bytes : List ℕ) → Single ks → Single (heard ks ev bytes)
heard_single ks (event.Opened c) bytes h = single_more ks (new_client c (clients_in ks)) refl h
heard_single ks (event.Read c n) bytes h = single_same ks _ (map_links (at_conn c (with_read bytes)) (at_link c (with_read bytes) (λ k. refl)) ks) h
heard_single ks (event.Ended c) bytes h = single_same ks _ (map_links (at_conn c with_end) (at_link c with_end (λ k. refl)) ks) h
heard_single ks event.Quiet bytes h = h
heard_single ks event.Shut bytes h = h

pub behind_single : (is : Settings) (log more : List Record) (w : World) (ks : List Client) → Single ks → Single (behind is log more w ks)
behind_single is log more w ks h =
    let r = round_all is w.contents w.walk ks in
    single_same (look_of is log r).clients _ (feed_links is more (look_of is log r).clients) (single_same r.clients _ (look_of_links is log r) (single_same ks _ (round_links is w.contents w.walk ks) h))

-- ---- before an event it is forgotten who takes no more

unstopped_fits : (l : Lines) (ks : List Client) → AllFit l ks → AllFit l (map unstopped ks)
unstopped_fits l [] h = tt
unstopped_fits l (k ∷ ks) h = (record { listed = h.0.listed; ends = h.0.ends; below = h.0.below; here = h.0.here; going = λ e. refl }, unstopped_fits l ks h.1)

unstopped_total : (acts : List Act) (ks : List Client) → total acts (map unstopped ks) ≡ total acts ks
unstopped_total acts [] = refl
unstopped_total acts (k ∷ ks) = let r = unstopped_total acts ks in omega (arith, r)

unstopped_serve : (ks : List Client) → list_any will_serve (map unstopped ks) ≡ list_any will_serve ks
unstopped_serve [] = refl
unstopped_serve (k ∷ ks) = ap (λ (b : Bool). will_serve k || b) (unstopped_serve ks)

unstopped_looked : (ks : List Client) → list_any is_looked_at (map unstopped ks) ≡ list_any is_looked_at ks
unstopped_looked [] = refl
unstopped_looked (k ∷ ks) = ap (λ (b : Bool). is_looked_at k || b) (unstopped_looked ks)

-- ---- an event

pub record EventFallsBy (w : World) (s : Script) (ev : Ev) (bytes : List ℕ) (left : List Act) (more : List Record) : Type 0 where
  pub meets : Meets (lines_after s.lines ev) (behind w.is w.records more w (heard_by w ev bytes))
  pub falls : shut_after w.shut ev ≡ false → twice (behind w.is w.records more w (heard_by w ev bytes)) left (lines_after s.lines ev) + pot (behind w.is w.records more w (heard_by w ev bytes)) + 1 ≤ left_in w s + one_if (list_any is_looked_at (heard_by w ev bytes))
  pub ends : shut_after w.shut ev ≡ true → left ≡ []

event_falls_by : (w : World) (s : Script) (paused : List ℕ) (busy : Bool) (more : List Record) → Meets s.lines w.there → LinkMeets w.there → Single w.there → IsRested w → paused ≡ should_pause w → busy ≡ is_some_waiting w → w.shut ≡ false
    → let n = next_act s.acts s.lines paused busy in EventFallsBy w s n.0 n.1 n.2 more
event_falls_by w s paused busy more h link single rested asked is_busy on = go (next_outs s.lines us s.acts paused busy fresh)
  where
    n : Ev × List ℕ × List Act
    n = next_act s.acts s.lines paused busy

    us : List Client
    us = map unstopped w.there

    fresh : Meets s.lines us
    fresh = record { each = unstopped_fits s.lines w.there h.each; fresh = h.fresh }

    ks : List Client
    ks = heard us n.0 n.1

    after : List Client
    after = behind w.is w.records more w ks

    l : Lines
    l = lines_after s.lines n.0

    met : Meets l ks
    met = next_meets s.lines us s.acts paused busy fresh

    all : Meets l after
    all = record { each = behind_fits l w.is w.records more w ks met.each; fresh = met.fresh }

    less : total n.2 after + one_if (list_any will_serve ks) ≤ total n.2 ks
    less = behind_falls n.2 w.is w.records more w ks

    waiting : (busy ≡ true) ⊎ ((c : ℕ) × (has paused c ≡ true)) → is_some_waiting w ≡ true
    waiting (inl is) = sym is_busy ∙ is
    waiting (inr x) = mapped_any w.there x.0 (ap (λ (p : List ℕ). has p x.0) (sym asked) ∙ x.1)

    go : Outs us s.lines paused busy n (twice us s.acts s.lines) → EventFallsBy w s n.0 n.1 n.2 more
    go (inl end) = record { meets = all; falls = λ e. absurd (let f = is_shut n.0 w.shut end.0 in cc); ends = λ e. end.1 }
    go (inr (inl falls)) = record {
      meets = all;
      falls = λ e. let a = pot_one after in let t = unstopped_total s.acts w.there in omega (arith, falls.0, less, a, t);
      ends = λ e. absurd (falls.1 (not_shut n.0 w.shut on e));
    }
    go (inr (inr kept)) =
        let same : ks ≡ us = ap (λ (ev : Ev). heard us ev n.1) kept.0 in
        let still : total n.2 ks ≡ total n.2 us = ap (total n.2) same in
        let t = unstopped_total s.acts w.there in
        let given : l.given ≡ s.lines.given = ap (λ (ev : Ev). (lines_after s.lines ev).given) kept.0 in
        let to_come : requests_in l.given n.2 ≡ requests_in s.lines.given n.2 = ap (λ (g : ℕ). requests_in g n.2) given in
        let like : LikeLinks us after = subst (λ (x : List Client). LikeLinks x after) same (behind_like w.is w.records more w.contents w.walk ks) in
        let fewer : pot after ≤ pot w.there = quiet_less w.there after like in
        record {
          meets = all;
          falls = λ e. ⊎_elim
              (λ clients.
              let one : one_if (list_any will_serve ks) ≡ 1 = ap (λ (x : List Client). one_if (list_any will_serve x)) same ∙ (ap one_if (unstopped_serve w.there) ∙ one_is _ clients) in
              omega (arith, kept.1, less, one, still, t, to_come, fewer))
              (λ waits.
              let p = quiet_pot w.there after link single rested.0 waits like in
              let seen : one_if (list_any is_looked_at ks) ≡ one_if (list_any is_looked_at w.there) = ap (λ (x : List Client). one_if (list_any is_looked_at x)) same ∙ ap one_if (unstopped_looked w.there) in
              omega (arith, kept.1, less, still, t, to_come, seen, p))
              (waiting_served s.lines w.there h.each rested.0 (waiting kept.2));
          ends = λ e. absurd (let f = not_shut n.0 w.shut on e in let q = kept.0 in cc);
        }

-- ---- a dial

-- fewer connections are still to be opened above a greater number
requests_fewer : (acts : List Act) (g h : ℕ) → g ≤ h → requests_in h acts ≤ requests_in g acts
requests_fewer [] g h le = omega arith
requests_fewer (Opened c ∷ acts) g h le = go (nat_lt c g) (nat_lt c h) refl refl (requests_fewer acts g h le) (λ (f : suc c ≤ h). requests_fewer acts (suc c) h f)
  where
    go : (a b : Bool) → nat_lt c g ≡ a → nat_lt c h ≡ b → requests_in h acts ≤ requests_in g acts → (suc c ≤ h → requests_in h acts ≤ requests_in (suc c) acts) → cond b (requests_in h acts) (frames (coming c acts) + requests_in (suc c) acts) ≤ cond a (requests_in g acts) (frames (coming c acts) + requests_in (suc c) acts)
    go true true ea eb ih more = ih
    go true false ea eb ih more = absurd (omega (arith, ltb-true _ _ ea, ltb-false _ _ eb, le))
    go false true ea eb ih more = let f = more (omega (arith, ltb-true _ _ eb)) in omega (arith, f)
    go false false ea eb ih more = omega arith
requests_fewer (Read c bytes ∷ acts) g h le = requests_fewer acts g h le
requests_fewer (Ended c ∷ acts) g h le = requests_fewer acts g h le
requests_fewer (Quiet ∷ acts) g h le = requests_fewer acts g h le

can_above : (l : Lines) (c : ℕ) → can_open l c ≡ true → l.given ≤ c
can_above l c can = ltb-false c l.given (first (nat_lt c l.given) (has l.conns c) can)
  where
    first : (a b : Bool) → (not a && not b) ≡ true → a ≡ false
    first false b e = refl
    first true b e = absurd cc

-- all but the last, and the last
fit_parts : (l : Lines) (ks : List Client) (k : Client) → AllFit l (ks ++ k ∷ []) → AllFit l ks × Fits l k
fit_parts l [] k h = (tt, h.0)
fit_parts l (j ∷ ks) k h = let r = fit_parts l ks k h.1 in ((h.0, r.0), r.1)

fit_join : (l : Lines) (ks : List Client) (k : Client) → AllFit l ks → Fits l k → AllFit l (ks ++ k ∷ [])
fit_join l [] k h f = (f, tt)
fit_join l (j ∷ ks) k h f = (h.0, fit_join l ks k h.1 f)

dial_meets : (is : Settings) (log : List Record) (l : Lines) (ks : List Client) (c : ℕ) → Meets l ks → can_open l c ≡ true → Meets (lines_dialled l (Conn c)) (ks ++ new_link is log c ∷ [])
dial_meets is log l ks c h can =
    let m = opened_meets l ks c h can in
    let p = fit_parts (lines_dialled l (Conn c)) ks (new_client c (clients_in ks)) m.each in
    record {
      each = fit_join (lines_dialled l (Conn c)) ks (new_link is log c) p.0 (record { listed = p.1.listed; ends = p.1.ends; below = p.1.below; here = p.1.here; going = λ e. absurd cc });
      fresh = m.fresh;
    }

dial_can : (ds : List Dialled) (l : Lines) (c : ℕ) → (next_dial ds l).0 ≡ Conn c → can_open l c ≡ true
dial_can [] l c e = absurd cc
dial_can (Conn d ∷ ds) l c e = go (can_open l d) refl e
  where
    go : (b : Bool) → can_open l d ≡ b → (cond {A = Dialled × List Dialled} b (Conn d, ds) (NotNow, ds)).0 ≡ Conn c → can_open l c ≡ true
    go true is f = let same : d ≡ c = cc in ap (can_open l) (sym same) ∙ is
    go false is f = absurd cc
dial_can (NotNow ∷ ds) l c e = absurd cc

due_none : (a b c : Bool) → (a && (b && not c)) ≡ true → c ≡ false
due_none a b false e = refl
due_none true true true e = absurd cc
due_none true false true e = absurd cc
due_none false b true e = absurd cc

dialled_by : (w : World) (s : Script) (host : List ℕ) (port : ℕ) (a : Dialled) (ds : List Dialled) → NoLink w.there → Meets s.lines w.there → LinkMeets w.there → Single w.there → ((c : ℕ) → a ≡ Conn c → can_open s.lines c ≡ true)
    → FallsBy w s (dialled w a) (record { acts = s.acts; dials = ds; lines = lines_dialled s.lines a })
dialled_by w s host port NotNow ds none h link single can = record { meets = h; link = link; single = single; falls = λ on. omega arith; played_out = λ on off. absurd cc; stays = λ off. off; kept_out = λ off. refl }
dialled_by w s host port (Conn c) ds none h link single can = record {
  meets = dial_meets w.is w.records s.lines w.there c h (can c refl);
  link = new_meets w.is w.records c w.there none;
  single = single_new w.there (new_link w.is w.records c) none;
  falls = λ on.
      let fewer = requests_fewer s.acts s.lines.given (c + 1) (omega (arith, can_above s.lines c (can c refl))) in
      let one = new_pot w.is w.records c w.there none in
      let t = total_appends s.acts w.there (new_link w.is w.records c) in
      omega (arith, fewer, one, t);
  played_out = λ on off. absurd cc;
  stays = λ off. off;
  kept_out = λ off. refl;
}

-- ---- one entry, and all

entry_by : (e : Entry) (w : World) (s : Script) → Meets s.lines w.there → LinkMeets w.there → Single w.there → AsksRight w e → Agrees s e → FallsBy w s (happens w e) (played s e)
entry_by (Open at) w s h link single asked agrees = record { meets = h; link = link; single = single; falls = λ on. omega arith; played_out = λ on off. absurd cc; stays = λ off. off; kept_out = λ off. refl }
entry_by (Dial host port answer) w s h link single asked agrees =
    dialled_by w s host port answer (next_dial s.dials s.lines).1 (due_none (is_replica w.is) w.due (list_any is_a_link w.there) asked.2) h link single (λ c is. dial_can s.dials s.lines c (sym agrees ∙ is))
entry_by (Event paused busy ev bytes) w s h link single asked agrees =
    subst (λ (x : Ev). FallsBy w s (happens w (Event paused busy x bytes)) (played s (Event paused busy x bytes))) (sym agrees.0)
    (subst (λ (b : List ℕ). FallsBy w s (happens w (Event paused busy n.0 b)) (played s (Event paused busy n.0 b))) (sym agrees.1) here)
  where
    n : Ev × List ℕ × List Act
    n = next_act s.acts s.lines paused busy

    v : World
    v = happens w (Event paused busy n.0 n.1)

    f : EventFallsBy w s n.0 n.1 n.2 v.records
    f = event_falls_by w s paused busy v.records h link single asked.rested asked.pauses asked.busily asked.running

    here : FallsBy w s v (played s (Event paused busy n.0 n.1))
    here = record {
      meets = f.meets;
      link = event_meets w.there v.there n.0 n.1 link (behind_like w.is w.records v.records w.contents w.walk (heard_by w n.0 n.1));
      single = behind_single w.is w.records v.records w (heard_by w n.0 n.1) (heard_single (map unstopped w.there) n.0 n.1 (single_same w.there (map unstopped w.there) (map_links unstopped (λ k. refl) w.there) single));
      falls = λ on. (let g = f.falls on in omega (arith, g));
      played_out = λ on off. f.ends off;
      stays = λ off. absurd (let o = asked.running in cc);
      kept_out = λ off. absurd (let o = asked.running in cc);
    }
entry_by (Send c bytes answer) w s h link single asked agrees = record {
  meets = record { each = sends_fit s.lines c bytes answer w.there agrees h.each; fresh = h.fresh };
  link = subst (λ (a : Sent). LinkMeets (map (at_conn c (sent bytes a)) w.there)) (sym agrees) (sent_meets c bytes w.there link);
  single = single_same w.there _ (map_links (at_conn c (sent bytes answer)) (at_link c (sent bytes answer) (sent_link bytes answer)) w.there) single;
  falls = λ on.
      let a = sends_leave s.acts c bytes answer w.there agrees in
      let b = ap (λ (a : Sent). pot (map (at_conn c (sent bytes a)) w.there)) agrees in
      let p = sent_less c bytes w.there in
      omega (arith, a, b, p);
  played_out = λ on off. absurd cc;
  stays = λ off. off;
  kept_out = λ off. refl;
}
entry_by (Close c) w s h link single asked agrees = record {
  meets = record { each = close_fits s.lines c w.there h.each; fresh = λ d le. (fewer_listed s.lines.conns c d (h.fresh d le).0, fewer_listed s.lines.ended c d (h.fresh d le).1) };
  link = closed_meets (λ k. not (nat_eq k.conn c)) w.there single link;
  single = single_filter (λ k. not (nat_eq k.conn c)) w.there single;
  falls = λ on. (let a = close_leaves s.acts c w.there in let p = closed_less s.lines c w.there h.each link asked.over in omega (arith, a, p));
  played_out = λ on off. absurd cc;
  stays = λ off. off;
  kept_out = λ off. refl;
}

by_then : (w v u : World) (s t r : Script) → FallsBy w s v t → FallsBy v t u r → FallsBy w s u r
by_then w v u s t r f g = record {
  meets = g.meets;
  link = g.link;
  single = g.single;
  falls = λ on. go_falls v.shut refl on;
  played_out = λ on off. go_out v.shut refl on off;
  stays = λ off. g.stays (f.stays off);
  kept_out = λ off. g.kept_out (f.stays off) ∙ f.kept_out off;
}
  where
    go_falls : (x : Bool) → v.shut ≡ x → u.shut ≡ false → u.events + left_in u r + w.looked ≤ w.events + left_in w s + u.looked
    go_falls true is on = absurd (let o = g.stays is in cc)
    go_falls false is on = let p = f.falls is in let q = g.falls on in omega (arith, p, q)

    go_out : (x : Bool) → v.shut ≡ x → w.shut ≡ false → u.shut ≡ true → r.acts ≡ []
    go_out true is on off = g.kept_out is ∙ f.played_out on is
    go_out false is on off = g.played_out is off

pub all_by : (es : List Entry) (w : World) (s : Script) → Meets s.lines w.there → LinkMeets w.there → Single w.there → AllAsked w es → AllAgree s es → FallsBy w s (world_after es w) (plays_all es s)
all_by [] w s h link single asked agrees = record { meets = h; link = link; single = single; falls = λ on. omega arith; played_out = λ on off. absurd cc; stays = λ off. off; kept_out = λ off. refl }
all_by (e ∷ es) w s h link single asked agrees =
    let one = entry_by e w s h link single asked.0 agrees.0 in
    by_then w (happens w e) (world_after es (happens w e)) s (played s e) (plays_all es (played s e)) one (all_by es (happens w e) (played s e) one.meets one.link one.single asked.1 agrees.1)

-- a run that isn't at its end had no more turns than twice the script's events, its whole pieces, the events that found a whole record on the link, and one
pub turns_bound_by : (es : List Entry) (is : Settings) (ticks : List ℕ) (opens : List At) (m : Mark) (acts : List Act) (dials : List Dialled) (given : ℕ) → AllAsked (started is ticks opens m) es → AllAgree (unplayed_with acts dials given) es → (world_after es (started is ticks opens m)).shut ≡ false
    → (world_after es (started is ticks opens m)).events ≤ (length acts + (length acts + requests_in given acts)) + 1 + (world_after es (started is ticks opens m)).looked
turns_bound_by es is ticks opens m acts dials given asked agrees on =
    let f = (all_by es (started is ticks opens m) (unplayed_with acts dials given) (record { each = tt; fresh = λ d le. (refl, refl) }) tt tt asked agrees).falls on in
    omega (arith, f)

-- and at its end each event of the script was given or skipped
pub all_played_by : (es : List Entry) (is : Settings) (ticks : List ℕ) (opens : List At) (m : Mark) (acts : List Act) (dials : List Dialled) (given : ℕ) → AllAsked (started is ticks opens m) es → AllAgree (unplayed_with acts dials given) es → (world_after es (started is ticks opens m)).shut ≡ true → (plays_all es (unplayed_with acts dials given)).acts ≡ []
all_played_by es is ticks opens m acts dials given asked agrees off = (all_by es (started is ticks opens m) (unplayed_with acts dials given) (record { each = tt; fresh = λ d le. (refl, refl) }) tt tt asked agrees).played_out refl off
