-- A run, turn by turn.
use Rattle.std.proofs.Common.{◌≡◌, ◌⊎◌, ◌<◌, ◌≤◌, ◌+◌, ◌-◌, ◌^◌, ◌≢◌, inl, inr, ⊎_elim, ℕ, Bool, true, false, cond, List, [], ◌∷◌, ◌++◌, length, map, refl, sym, ap, subst, ◌∙◌, arith, append_assoc}
use Rattle.std.specs.Prelude.{Option, Some, None, Result, Ok, Err, OnOk}
use Rattle.std.proofs.lemmas.List.{append-nil}
use Rattle.std.proofs.lemmas.List.Elements.{All-append, All-nil}
use Rattle.tc_base.specs.Files.{Files}
use Rattle.tc_base.specs.declared.fault.Fault.{Fault}
use Rattle.tc_io.specs.Causes.{HasCause}
use Rattle.tc_io.specs.declared.act.Act.{Act}
use Rattle.tc_io.specs.declared.sink.Sink as sink
use Rattle.tc_io.specs.declared.wire.Dialled.{Dialled}
use Rattle.tc_io.specs.Script.{Script, Plays, AllAgree}
use Rattle.tc_io.specs.Told.{Adds}
use Rattle.tc_io.specs.declared.wire.Wire as wire
use Rattle.tc_io.specs.declared.wire.At.{At}
use Rattle.tc_io.specs.declared.wire.Ev.{Ev}
use Rattle.tc_io.specs.declared.wire.Entry.{Entry}
use Rattle.tc_io.specs.declared.wire.Entry.TheVariants.{Open, Dial, Event, Send, Close}
use Rattle.tc_space.specs.Frames.{Keeps, keeps_then, only_reads_refl, only_reads_then}
use Rattle.tc_space.specs.Moments.{Steady, steady_then}
use Rattle.tc_space.specs.declared.space.Space as space
use Rattle.tc_model.specs.Contents.{Contents}
use Rattle.ty_world.specs.Clients.{Client}
use Rattle.ty_world.specs.Logs.{Settings, is_replica, records_after}
use Rattle.ty_world.specs.Measure.{requests_in}
use Rattle.ty_world.specs.Playing.{unplayed_with}
use Rattle.ty_world.proofs.Linked.{turns_bound_by}
use Rattle.ty_world.proofs.Sent.{all_was}
use Rattle.ty_world.proofs.Undialled.{turns_bound_alone}
use Rattle.ty_world.specs.World.{World, Mark, copied_at, mark_of, added, happens, heard_by, rounded, world_after, commits_in, labels_in, AllAsked, IsRested}
use Rattle.ty_ulog.specs.declared.record.Record.{Record}
use Rattle.ty_ulog.specs.Log.{IsLog}
use Rattle.ty_ulog.specs.Noting.{Lacks}
use Rattle.ty_rounds.specs.Books.{IsBook, settings_of}
use Rattle.ty_rounds.specs.Kept.{HoldsMark, Reopens, LeavesMarks, IsIn}
use Rattle.ty_rounds.specs.Holding.{AllHold, Stands, State, Wired, book_of}
use Rattle.ty_rounds.specs.Peers.{numbers}
use Rattle.ty_rounds.specs.Serving.{FillsIn, part_less}
use Rattle.ty_rounds.specs.Copying.{IsAmong}
use Rattle.ty_rounds.specs.Turns.{CameToSends, FullTurn, Idles, LeavesEither, MarksMore, MeetsFor, OnlyCopied, Turned, Turns, TurnsFull, TurnEnds, IsTurn, entries_of, has_send}
use Rattle.ty_rounds.specs.declared.logging.Logged.{Logged}
use Rattle.ty_rounds.specs.declared.peer.Peer.{Peer}
use Rattle.ty_rounds.specs.declared.outcome.Outcome.{Outcome}
use Rattle.ty_rounds.specs.declared.outcome.Outcome.TheVariants.{Went, Gap, Shut}
use Rattle.ty_rounds.specs.declared.outcome.TurnErr.{TurnErr}
use Rattle.ty_rounds.specs.declared.outcome.TurnErr.TheVariants as turn
use Rattle.ty_rounds.proofs.Copied.{only_none, only_then}
use Rattle.ty_rounds.proofs.Telling.{Adds-none, Adds-then, Plays-none, Plays-then}
use Rattle.ty_rounds.proofs.Entries.{after_more, asked_more, came_more}
use Rattle.ty_rounds.proofs.Fine.{hold_fine}
use Rattle.tk_top.specs.declared.ends.End.{End}
use Rattle.tk_top.specs.declared.ends.End.TheVariants.{Done, VolumeFault, NoMemory, Full, WireFault, TurnsSpent}
use Rattle.tk_top.specs.CopyRuns.{AreMadeAt, CopiesSo, CopyRun, StandsAt}
use Rattle.tk_top.specs.Ends.{end_of_turn}
use Rattle.tk_top.specs.Events.{events_of}
use Rattle.tk_top.specs.GapLines.{TellsGap, TellsGaps, gap_line, gap_lines}
use Rattle.tk_top.specs.Runs.{AtExit, Ends, EndsFull, EndsTurn, FullRun, IsAt, NoneCopied, NoneKept, RunEnds, RunsTo, conns_of}
use Rattle.tk_top.specs.Starts.{Grows, Start, StartsAs, begun, most_turns, start_of, when, with_log}
use Rattle.tk_top.proofs.CopyLaws.{copies_end, copies_more, copies_none, copies_same, copies_stay, turn_copies}
use Rattle.tk_top.proofs.Events.{had_all, had_last, turn_events, went_more, went_none}
use Rattle.tk_top.proofs.Fresh.{Fresh}
use Rattle.tk_top.proofs.Logs.{is_stays, world_logged}
use Rattle.tk_top.proofs.Opened.{served_then, turn_served}

-- ---- marks

in_cons : (c d : Mark) (ms ns : List Mark) → ms ≡ d ∷ ns → (c ≡ d) ⊎ IsIn c ns → IsIn c ms
in_cons c d ms ns is h = subst (λ (m : List Mark). IsIn c m) (sym is) h

marks_stay : (w v : World) (c : Mark) → MarksMore w v → IsIn c w.marks → IsIn c v.marks
marks_stay w v c mm h = ⊎_elim (λ x. subst (λ (m : List Mark). IsIn c m) (sym x.0) h) (λ x. in_cons c (mark_of v) v.marks w.marks x (inr h)) mm.more

now_in : (v : World) (older : List Mark) → v.marks ≡ mark_of v ∷ older → IsIn (mark_of v) v.marks
now_in v older is = in_cons (mark_of v) (mark_of v) v.marks older is (inl refl)

marked_after : (w v : World) (older : List Mark) → w.marks ≡ mark_of w ∷ older → MarksMore w v → (more : List Mark) × (v.marks ≡ mark_of v ∷ more)
marked_after w v older is mm = ⊎_elim (λ x. (older, x.0 ∙ is ∙ ap (λ (d : Mark). d ∷ older) (sym x.1))) (λ x. (w.marks, x)) mm.more

last_in : (w v : World) (older : List Mark) → w.marks ≡ mark_of w ∷ older → MarksMore w v → IsIn (mark_of v) v.marks
last_in w v older is mm = let m = marked_after w v older is mm in now_in v m.0 m.1

pub conns_held : (w : World) (ps : List Peer) (ks : List Client) → AllHold (book_of w) ps ks → numbers ps ≡ map (λ (k : Client). k.conn) ks
conns_held w [] [] h = refl
conns_held w (p ∷ ps) (k ∷ ks) h = λ i. sym h.0.conn i ∷ conns_held w ps ks h.1 i
conns_held w [] (k ∷ ks) h = absurd h
conns_held w (p ∷ ps) [] h = absurd h

-- ---- the update log only grows

records_more : (is : Settings) (log new : List Record) → (more : List Record) × (records_after is log new ≡ log ++ more)
records_more is log new = go is.logs
  where
    go : (b : Bool) → (more : List Record) × (cond b (log ++ new) log ≡ log ++ more)
    go true = (new, refl)
    go false = ([], sym (append-nil log))

one_grows : (e : Entry) (w : World) → Grows w (happens w e)
one_grows (Open at) w = record { more = []; records_are = sym (append-nil w.records) }
one_grows (Dial host port answer) w = record { more = []; records_are = sym (append-nil w.records) }
one_grows (Event paused busy ev bytes) w = let r = records_more w.is w.records (added w (rounded w ev bytes)) in record { more = r.0; records_are = r.1 }
one_grows (Send c bytes answer) w = record { more = []; records_are = sym (append-nil w.records) }
one_grows (Close c) w = record { more = []; records_are = sym (append-nil w.records) }

pub grows : (es : List Entry) (w : World) → Grows w (world_after es w)
grows [] w = record { more = []; records_are = sym (append-nil w.records) }
grows (e ∷ es) w =
    let one = one_grows e w in
    let rest = grows es (happens w e) in
    record { more = one.more ++ rest.more; records_are = rest.records_are ∙ ap (λ (rs : List Record). rs ++ rest.more) one.records_are ∙ append_assoc w.records one.more rest.more }

-- and where the server kept it, it is one
pub log_kept : (l : Option Logged) (is : Settings) (w : World) → is ≡ settings_of l → IsBook l (book_of w) w.log → when is.logs (IsLog w.log w.records)
log_kept None is w same book = subst (λ (s : Settings). when s.logs (IsLog w.log w.records)) (sym same) tt
log_kept (Some l) is w same book = subst (λ (s : Settings). when s.logs (IsLog w.log w.records)) (sym same) book.holds.log

pub log_stands : (l : Option Logged) (w : World) → IsBook l (book_of w) w.log → w.is.logs ≡ true → IsLog w.log w.records
log_stands None w book on = absurd (let e : true ≡ false = sym on ∙ ap (λ (is : Settings). is.logs) book.is_same in cc)
log_stands (Some l) w book on = book.holds.log

-- ---- rounds that have nothing to commit, and none to copy

front_kept : (xs ys : List Entry) (w : World) → commits_in w (xs ++ ys) ≡ false → commits_in w xs ≡ false
front_kept [] ys w e = refl
front_kept (Open at ∷ xs) ys w e = refl
front_kept (Dial host port answer ∷ xs) ys w e = front_kept xs ys (happens w (Dial host port answer)) e
front_kept (Event paused busy ev bytes ∷ xs) ys w e = e
front_kept (Send c bytes answer ∷ xs) ys w e = refl
front_kept (Close c ∷ xs) ys w e = refl

front_copied : (xs ys : List Entry) (w : World) → labels_in w (xs ++ ys) ≡ [] → labels_in w xs ≡ []
front_copied [] ys w e = refl
front_copied (Open at ∷ xs) ys w e = refl
front_copied (Dial host port answer ∷ xs) ys w e = front_copied xs ys (happens w (Dial host port answer)) e
front_copied (Event paused busy ev bytes ∷ xs) ys w e = e
front_copied (Send c bytes answer ∷ xs) ys w e = refl
front_copied (Close c ∷ xs) ys w e = refl

kept_parts : (xs ys : List Entry) (w : World) → NoneKept w (xs ++ ys) → NoneKept w xs × NoneKept (world_after xs w) ys
kept_parts [] ys w none = (tt, none)
kept_parts (x ∷ xs) ys w none = let rest = kept_parts xs ys (happens w x) none.1 in ((front_kept (x ∷ xs) ys w none.0, rest.0), rest.1)

copied_parts : (xs ys : List Entry) (w : World) → NoneCopied w (xs ++ ys) → NoneCopied w xs × NoneCopied (world_after xs w) ys
copied_parts [] ys w none = (tt, none)
copied_parts (x ∷ xs) ys w none = let rest = copied_parts xs ys (happens w x) none.1 in ((front_copied (x ∷ xs) ys w none.0, rest.0), rest.1)

-- nor has the turn behind them
kept_in : (es : List Entry) (w : World) → NoneKept w es → commits_in w es ≡ false
kept_in [] w none = refl
kept_in (e ∷ es) w none = none.0

copied_in : (es : List Entry) (w : World) → NoneCopied w es → labels_in w es ≡ []
copied_in [] w none = refl
copied_in (e ∷ es) w none = none.0

-- ---- a turn

-- the clock's answers, one behind the other
start_more : (l : Option Logged) (xs ys later : List ℕ) → start_of l xs (ys ++ later) ≡ start_of l (xs ++ ys) later
start_more l xs ys later = λ i. record { is = settings_of l; ticks = sym (append_assoc xs ys later) i }

-- it went on, and met these gaps
abbrev pub GoesOn : Outcome → List (ℕ × ℕ) → Type 0
GoesOn Went gaps = gaps ≡ []
GoesOn (Gap held follows) gaps = gaps ≡ (held, follows) ∷ []
GoesOn Shut gaps = ⊥

goes_on : (o : Outcome) (gaps : List (ℕ × ℕ)) → GoesOn o gaps → o ≡ Shut → ⊥
goes_on Went gaps is e = absurd cc
goes_on (Gap held follows) gaps is e = absurd cc
goes_on Shut gaps is e = is

module _ {S : Type 0} (s : space.Ghosts S) (reopens : Files → Contents → Type 0) where
  idle_keeps : (res : Result Outcome TurnErr) (a t : S) → Idles s reopens res a t → Keeps s a t
  idle_keeps (Ok x) a t only = only.keeps
  idle_keeps (Err turn.Wire) a t only = only.keeps
  idle_keeps (Err turn.Memory) a t keeps = keeps
  idle_keeps (Err turn.Volume) a t keeps = keeps
  idle_keeps (Err turn.Full) a t keeps = keeps

  only_steady : (res : Result Outcome TurnErr) (a t : S) → OnlyCopied s reopens res a t → s.tells → Steady s.moment s.files_at s.left s.kept a t
  only_steady (Ok x) a t only = only.steady
  only_steady (Err turn.Wire) a t only = only.steady
  only_steady (Err turn.Memory) a t steady = steady
  only_steady (Err turn.Volume) a t steady = steady
  only_steady (Err turn.Full) a t steady = steady

-- a server that was just made
abbrev pub anew : Option Logged → State
anew l = record { logged = l; due = true; walk = None; peers = [] }

module _ {S B W : Type 0} (s : space.Ghosts S) (g : wire.Ghosts W) (holds : B → Files → Contents → Type 0) (reopens : Files → Contents → Type 0) where
  abbrev pub Known : B → S → Mark → Type 0
  Known b a m = HoldsMark s holds reopens b a m

  -- behind a turn that went on
  record Goes (base' : B) (t : S) (given : ℕ) (m' : State) (gaps : List (ℕ × ℕ)) (w v : World) : Type 0 where
    stands : Stands (Known base' t) given m' v
    on : v.shut ≡ false
    events : v.events ≡ w.events + 1
    gaps_are : v.gaps ≡ w.gaps ++ gaps

  goes : (o : Outcome) (gaps : List (ℕ × ℕ)) (base' : B) (t : S) (given : ℕ) (m' : State) (w v : World) → GoesOn o gaps → TurnEnds s reopens (Ok o) t (Known base' t) given m' w v → Goes base' t given m' gaps w v
  goes Went gaps base' t given m' w v is e = record { stands = e.0; on = e.1; events = (let n = e.2 in omega (arith, n)); gaps_are = e.3 ∙ sym (append-nil w.gaps) ∙ ap (λ (l : List (ℕ × ℕ)). w.gaps ++ l) (sym is) }
  goes (Gap held follows) gaps base' t given m' w v is e = record { stands = e.0; on = e.1; events = (let n = e.2 in omega (arith, n)); gaps_are = e.3 ∙ ap (λ (l : List (ℕ × ℕ)). w.gaps ++ l) (sym is) }
  goes Shut gaps base' t given m' w v is e = absurd is

  pub still_stands : (b : B) (a : S) (m : Mark) → Fresh s a → Known b a m → (o : Option Files) → s.left a (s.moment a) o → Reopens reopens o m
  still_stands b a m only h o l = let x = only h.has.held.0 in record { files = s.now a; is = x.0 o l ∙ x.1; stand = record { contents = h.stand; log = h.has.log } }

  pub moments_more : (set : Settings) (s0 a t : S) (w v : World) (older : List Mark) → w.is ≡ set → v.is ≡ set → w.marks ≡ mark_of w ∷ older → MarksMore w v → LeavesMarks s (with_log set.logs reopens) s0 a w.marks → LeavesEither s reopens a t w v → LeavesMarks s (with_log set.logs reopens) s0 t v.marks
  moments_more set s0 a t w v older ws vs is mm first two = record {
    leaves = record {
      later = omega (arith, first.leaves.later, two.leaves.later);
      each = λ n o le l. ⊎_elim
          (λ mid. ⊎_elim (λ was. inl was) (λ m. inr (record { mark = m.mark; listed = marks_stay w v m.mark mm m.listed; reopen = m.reopen })) (first.leaves.each n o le mid))
          (λ p. inr (⊎_elim (λ r. record { mark = mark_of v; listed = last_in w v older is mm; reopen = world_logged reopens set v o vs r }) (λ r. record { mark = mark_of w; listed = marks_stay w v (mark_of w) mm (now_in w older is); reopen = world_logged reopens set w o ws r }) p))
          (two.leaves.each n o (omega (arith, le, first.leaves.later)) l);
    };
  }

  sent_came : (res : Result Outcome TurnErr) (es : List Entry) → has_send es ≡ true → CameToSends res es
  sent_came (Ok x) es sent = tt
  sent_came (Err turn.Wire) es sent = tt
  sent_came (Err turn.Volume) es sent = sent
  sent_came (Err turn.Full) es sent = sent
  sent_came (Err turn.Memory) es sent = sent

  came_or_out : (end : End) (res : Result Outcome TurnErr) (w : World) (es : List Entry) (l : List ℕ) → (AreMadeAt end → CameToSends res es) → StandsAt end w es l → CameToSends res es ⊎ (IsAmong l (labels_in w es) → ⊥)
  came_or_out end res w es l came at = ⊎_elim (λ made. inl (came made)) (λ other. ⊎_elim (λ sent. inl (sent_came res es sent)) (λ out. inr out) other) at

  -- of the copy under each label, of a turn that ended so
  pub copies_behind : (end : End) (res : Result Outcome TurnErr) (is : Settings) (conns : List ℕ) (later : List ℕ) (s0 a t : S) (known : Mark → Type 0) (given : ℕ) (m' : State) (w : World) (es : List Entry) (older : List Mark) → (AreMadeAt end → CameToSends res es) → w.marks ≡ mark_of w ∷ older → IsTurn is conns res es
      → Turned s reopens res later a t known given m' w (world_after es w) es → (l : List ℕ) → s.tells → CopiesSo reopens l w ((s.names s0).copies l) ((s.names a).copies l) → CopyRun reopens l (StandsAt end w es l) (world_after es w).marks (copied_at l (world_after es w).copies) ((s.names s0).copies l) ((s.names t).copies l)
  copies_behind end res is conns later s0 a t known given m' w es older came marked calls e l tells so =
      let v = world_after es w in
      let more = turn_copies is conns res es w calls in
      ⊎_elim (λ p. copies_same reopens l (StandsAt end w es l) (labels_in w es) w v ((s.names s0).copies l) (s.names a) (s.names t) p.0 (λ at. ⊎_elim (λ c. inl (p.1 c)) (λ out. inr out) (came_or_out end res w es l came at)) (λ c h. marks_stay w v c e.marks h) more so)
      (λ stand. copies_end reopens l (StandsAt end w es l) (s.now t) (labels_in w es) w v ((s.names s0).copies l) (s.names a) (s.names t) stand (λ c h. marks_stay w v c e.marks h) (last_in w v older marked e.marks) more (e.copies.copies tells) (λ at. ⊎_elim (λ c. inl (e.copies.made c tells)) (λ out. inr out) (came_or_out end res w es l came at)) so) (e.copied tells)

  -- ---- turns

  pub run_start : (l : Option Logged) (b : B) (a : S) (x : W) (c : Option (List ℕ)) (m : State) → s.sound a → m ≡ anew l → RunsTo s g holds reopens l b b a a x x c c m 0
  run_start l b a x c m sound is = subst (λ (z : State). RunsTo s g holds reopens l b b a a x x c c z 0) (sym is) (record {
    entries = [];
    told = Adds-none (g.transcript x);
    served = tt;
    went = went_none;
    plays = Plays-none (g.plays x);
    ticks = [];
    clocked = Adds-none c;
    small = All-nil (λ (t : ℕ). t < 2 ^ 64);
    unticked = λ off. refl;
    gaps = [];
    at = λ first h starts later opens. record {
      asked = tt;
      came = tt;
      stands = record {
        mark = h;
        book = starts;
        due_is = refl;
        walk_is = refl;
        each = tt;
        past = tt;
        rested = (refl, refl);
        introduced = record { single = tt; alone = λ e. refl; short = tt };
        older = [];
        marked = refl;
        above = omega arith;
      };
      ticks = refl;
      on = refl;
      events = refl;
      opens_are = refl;
      idle = λ kept copied. only_reads_refl s a sound;
      only = λ kept. only_none s a sound;
      moments = record { leaves = record { later = omega arith; each = λ n o le l. inl l } };
      copies = λ label tells. copies_none reopens label (begun (start_of l [] later) opens first) ((s.names a).copies label) refl;
    };
    gaps_are = λ first h starts later opens. refl;
  })

  pub run_more : (l : Option Logged) (b base base' : B) (s0 a t : S) (x y z : W) (c d e : Option (List ℕ)) (m m' : State) (n : ℕ) (o : Outcome) (gaps : List (ℕ × ℕ)) → GoesOn o gaps → settings_of m.logged ≡ settings_of l → RunsTo s g holds reopens l b base s0 a x y c d m n
      → Turns s g holds reopens (Ok o) base base' a t y z d e m m' → RunsTo s g holds reopens l b base' s0 t x z c e m' (n + 1)
  run_more l b base base' s0 a t x y z c d e m m' n o gaps on same run turned = record {
    entries = run.entries ++ turned.entries;
    told = Adds-then (g.transcript x) (g.transcript y) (g.transcript z) run.entries turned.entries run.told turned.told;
    served = served_then (settings_of l) run.entries turned.entries run.served (turn_served (settings_of l) (g.conns y) (Ok o) turned.entries calls);
    went = went_more (settings_of l) (g.conns y) o n run.entries turned.entries (goes_on o gaps on) run.went calls;
    plays = Plays-then (g.plays x) (g.plays y) (g.plays z) run.entries turned.entries run.plays turned.plays;
    ticks = run.ticks ++ turned.ticks;
    clocked = Adds-then c d e run.ticks turned.ticks run.clocked turned.clocked;
    small = All-append (λ (t : ℕ). t < 2 ^ 64) run.ticks turned.ticks run.small turned.small;
    unticked = λ off. let first = run.unticked off in let rest = turned.unticked (ap (λ (is : Settings). is.logs) same ∙ off) in (λ i. first i ++ rest i);
    gaps = run.gaps ++ gaps;
    at = λ first h starts later opens.
        let es = turned.entries in
        let st = start_of l run.ticks (turned.ticks ++ later) in
        let w0 = begun st opens first in
        let w = world_after run.entries w0 in
        let v = world_after es w in
        let at = run.at first h starts (turned.ticks ++ later) opens in
        let f = turned.ends w later at.stands at.on at.ticks in
        let q = goes o gaps base' t (g.given z) m' w v on f.ends in
        subst (λ (r : Start). IsAt s reopens s0 t r later opens first (Known base' t) (g.given z) m' (n + 1) (run.entries ++ es) (world_after (run.entries ++ es) (begun r opens first))) (start_more l run.ticks turned.ticks later)
        (subst (λ (u : World). IsAt s reopens s0 t st later opens first (Known base' t) (g.given z) m' (n + 1) (run.entries ++ es) u) (sym (after_more run.entries es w0)) (record {
          asked = asked_more run.entries es w0 at.asked f.asked;
          came = came_more run.entries es w0 at.came f.came;
          stands = q.stands;
          ticks = f.ticks;
          on = q.on;
          events = (let i = q.events in let k = at.events in omega (arith, i, k));
          opens_are = f.opens ∙ at.opens_are;
          idle = λ kept copied.
              let ks = kept_parts run.entries es w0 kept in
              let cs = copied_parts run.entries es w0 copied in
              only_reads_then s s0 a t (at.idle ks.0 cs.0) (f.idle (kept_in es w ks.1) (copied_in es w cs.1));
          only = λ kept. let ks = kept_parts run.entries es w0 kept in only_then s s0 a t (at.only ks.0) (f.only (kept_in es w ks.1));
          moments = moments_more (settings_of l) s0 a t w v at.stands.older (is_stays run.entries w0) (is_stays es w ∙ is_stays run.entries w0) at.stands.marked f.marks at.moments f.moments;
          copies = λ label tells. copies_more reopens label (StandsAt Done w es label) v ((s.names s0).copies label) ((s.names t).copies label) (inl (inl refl))
              (copies_behind Done (Ok o) (settings_of l) (g.conns y) later s0 a t (Known base' t) (g.given z) m' w es at.stands.older (λ made. tt) at.stands.marked calls f label tells (at.copies label tells));
        }));
    gaps_are = λ first h starts later opens.
        let st = start_of l run.ticks (turned.ticks ++ later) in
        let w = world_after run.entries (begun st opens first) in
        let at = run.at first h starts (turned.ticks ++ later) opens in
        let f = turned.ends w later at.stands at.on at.ticks in
        let q = goes o gaps base' t (g.given z) m' w (world_after turned.entries w) on f.ends in
        subst (λ (r : Start). (world_after (run.entries ++ turned.entries) (begun r opens first)).gaps ≡ run.gaps ++ gaps) (start_more l run.ticks turned.ticks later)
        (ap (λ (u : World). u.gaps) (after_more run.entries turned.entries (begun st opens first)) ∙ q.gaps_are ∙ ap (λ (gs : List (ℕ × ℕ)). gs ++ gaps) (run.gaps_are first h starts (turned.ticks ++ later) opens));
  }
    where
      calls : IsTurn (settings_of l) (g.conns y) (Ok o) turned.entries
      calls = subst (λ (k : Settings). IsTurn k (g.conns y) (Ok o) turned.entries) same turned.calls

-- a limit of one kind that is one of another
pub fills_wider : (fills wide : Contents → Contents → Type 0) (lacks : ℕ → ℕ → Type 0) (w : World) (ev : Ev) (bytes : List ℕ) → ((i j : Contents) → fills i j → wide i j) → FillsIn fills lacks w ev bytes → FillsIn wide lacks w ev bytes
fills_wider fills wide lacks w ev bytes wider x = ⊎_elim (λ part. inl (part_less w.is fills wide wider w.records w.contents w.walk (heard_by w ev bytes) part)) (λ lack. inr lack) x

-- ---- the end of a run

-- so many turns are the most that a script takes
spent_bound : (es : List Entry) (st : Start) (opens : List At) (m : Mark) (acts : List Act) (dials : List Dialled) (given : ℕ) → AllAsked (begun st opens m) es → AllAgree (unplayed_with acts dials given) es → (world_after es (begun st opens m)).shut ≡ false
    → (world_after es (begun st opens m)).events ≤ most_turns st.is acts given (world_after es (begun st opens m)).looked
spent_bound es st opens m acts dials given asked agree on = go (is_replica st.is) refl
  where
    v : World
    v = world_after es (begun st opens m)

    go : (b : Bool) → is_replica st.is ≡ b → v.events ≤ cond b ((length acts + (length acts + requests_in given acts)) + 1 + v.looked) (length acts + requests_in given acts)
    go true is = turns_bound_by es st.is st.ticks opens m acts dials given asked agree on
    go false is = turns_bound_alone es st.is st.ticks opens m acts dials given is asked agree on

never_none : (gs : List (ℕ × ℕ)) (g : ℕ × ℕ) → gs ++ g ∷ [] ≡ [] → ⊥
never_none [] g e = cc
never_none (x ∷ gs) g e = cc

lines_then : (gs : List (ℕ × ℕ)) (g : ℕ × ℕ) → gap_lines (gs ++ g ∷ []) ≡ gap_lines gs ++ gap_line g
lines_then [] g = append-nil (gap_line g)
lines_then (x ∷ gs) g = ap (λ (t : List ℕ). gap_line x ++ t) (lines_then gs g) ∙ sym (append_assoc (gap_line x) (gap_lines gs) (gap_line g))

line_kept : {P : Type 0} (before now : ℕ) (ok : Result (Unit {0}) Fault) → HasCause before now ok → now ≡ before → before < 2 ^ 64 - 1 → OnOk ok P → P
line_kept before now (Ok x) c e few h = h
line_kept before now (Err f) c e few h = absurd (let r = c.failed in omega (arith, r, e, few))

-- a line of each gap, where none failed; without a master none was met
pub record Lined {E : Type 0} (k : sink.Ghosts E) (is : Settings) (gaps : List (ℕ × ℕ)) (p q : E) : Type 0 where
  tells : TellsGaps k gaps p q
  none_met : is.master ≡ None → gaps ≡ []

pub lined_start : {E : Type 0} (k : sink.Ghosts E) (is : Settings) (p : E) → Lined k is [] p p
lined_start k is p = record { tells = record { later = omega arith; lined = λ e few. Adds-none (k.taken p); silent = λ e. refl }; none_met = λ e. refl }

pub lined_more : {E : Type 0} (k : sink.Ghosts E) (is : Settings) (gaps : List (ℕ × ℕ)) (p q r : E) (held follows : ℕ) (ok : Result (Unit {0}) Fault) → MeetsFor is (Gap held follows) → HasCause (k.faults q) (k.faults r) ok → OnOk ok (Adds (k.taken q) (k.taken r) (gap_line (held, follows))) → Lined k is gaps p q
    → Lined k is (gaps ++ (held, follows) ∷ []) p r
lined_more k is gaps p q r held follows ok meets cause line l = record {
  tells = record {
    later = (let a = l.tells.later in let c = cause.later in omega (arith, a, c));
    lined = λ e few.
        let a = l.tells.later in
        let c = cause.later in
        let same : k.faults q ≡ k.faults p = omega (arith, e, a, c) in
        let still : k.faults r ≡ k.faults q = omega (arith, e, a, c) in
        let fewer : k.faults q < 2 ^ 64 - 1 = omega (arith, few, same) in
        subst (Adds (k.taken p) (k.taken r)) (sym (lines_then gaps (held, follows))) (Adds-then (k.taken p) (k.taken q) (k.taken r) (gap_lines gaps) (gap_line (held, follows)) (l.tells.lined same few) (line_kept (k.faults q) (k.faults r) ok cause still fewer line));
    silent = λ e. absurd (never_none gaps (held, follows) e);
  };
  none_met = λ e. absurd (meets e);
}

module _ {S B W E : Type 0} (s : space.Ghosts S) (g : wire.Ghosts W) (k : sink.Ghosts E) (holds : B → Files → Contents → Type 0) (reopens : Files → Contents → Type 0) where
  -- behind a turn that was the last
  record IsClosed (is : Settings) (w v : World) : Type 0 where
    shut : v.shut ≡ true
    rested : IsRested v
    log : when is.logs (IsLog v.log v.records)

  -- the last turn, however it ended
  run_ended : (l : Option Logged) (b base base' : B) (s0 a t : S) (x y z : W) (c d f : Option (List ℕ)) (p q : E) (m m' : State) (n turns : ℕ) (res : Result Outcome TurnErr) (end : End) → n < turns → settings_of m.logged ≡ settings_of l → Wired (g.conns y) m.peers
      → (run : RunsTo s g holds reopens l b base s0 a x y c d m n) → Lined k (settings_of l) run.gaps p q → (turned : Turns s g holds reopens res base base' a t y z d f m m')
      → (end ≡ Done → Plays (g.plays y) (g.plays z) turned.entries)
      → ((is : Settings) (conns : List ℕ) → IsTurn is conns res turned.entries → EndsTurn is end conns turned.entries)
      → ((w v : World) → TurnEnds s reopens res t (HoldsMark s holds reopens base' t) (g.given z) m' w v → (o : Option Files) → s.left t (s.moment t) o → AtExit reopens end w v o)
      → ((w v : World) → TurnEnds s reopens res t (HoldsMark s holds reopens base' t) (g.given z) m' w v → end ≡ Done → IsClosed (settings_of l) w v)
      → (AreMadeAt end → CameToSends res turned.entries)
      → ((P : Type 0) → OnOk res P → end ≡ Done → P)
      → end ≢ TurnsSpent
      → Ends s g k holds reopens end turns l b s0 t x z c f p q
  run_ended l b base base' s0 a t x y z c d f p q m m' n turns res end few same wired run lines turned plays calls exits closed made ok other = record {
    entries = all;
    told = Adds-then (g.transcript x) (g.transcript y) (g.transcript z) run.entries turned.entries run.told turned.told;
    served = served_then (settings_of l) run.entries turned.entries run.served (turn_served (settings_of l) (g.conns y) res turned.entries turn);
    events = had_last (settings_of l) end turns n (g.conns y) run.entries turned.entries few run.went (turn_events (settings_of l) (g.conns y) res turned.entries turn) (calls (settings_of l) (g.conns y) turn) other;
    plays = λ i. plays_all i;
    ticks = run.ticks ++ turned.ticks;
    clocked = Adds-then c d f run.ticks turned.ticks run.clocked turned.clocked;
    small = All-append (λ (t : ℕ). t < 2 ^ 64) run.ticks turned.ticks run.small turned.small;
    unticked = λ off. let first = run.unticked off in let rest = turned.unticked (ap (λ (is : Settings). is.logs) same ∙ off) in (λ i. first i ++ rest i);
    gaps = run.gaps;
    tells = lines.tells;
    none_met = lines.none_met;
    ends = ends;
    enough = λ first h starts later opens acts dials given is le. other;
    sent = λ first h starts later opens acts dials given is done.
        let r = ends first h starts later opens in
        let pl : Plays (Some (unplayed_with acts dials given)) (g.plays z) all = subst (λ (sc : Option Script). Plays sc (g.plays z) all) is (plays_all (inl done)) in
        all_was all (settings_of l) ((run.ticks ++ turned.ticks) ++ later) opens first (unplayed_with acts dials given) r.asked pl.1 (r.rested (inl done)) (r.done done);
  }
    where
      all : List Entry
      all = run.entries ++ turned.entries

      turn : IsTurn (settings_of l) (g.conns y) res turned.entries
      turn = subst (λ (is : Settings). IsTurn is (g.conns y) res turned.entries) same turned.calls

      plays_all : (end ≡ Done) ⊎ (end ≡ TurnsSpent) → Plays (g.plays x) (g.plays z) all
      plays_all i = Plays-then (g.plays x) (g.plays y) (g.plays z) run.entries turned.entries run.plays (⊎_elim plays (λ (j : end ≡ TurnsSpent). absurd (other j)) i)

      ends : (first : Mark) → HoldsMark s holds reopens b s0 first → StartsAs l first → (later : List ℕ) (opens : List At)
          → RunEnds s (start_of l (run.ticks ++ turned.ticks) later) later reopens end turns run.gaps s0 t opens first all (world_after all (begun (start_of l (run.ticks ++ turned.ticks) later) opens first))
      ends first h starts later opens =
          let es = turned.entries in
          let st = start_of l run.ticks (turned.ticks ++ later) in
          let w0 = begun st opens first in
          let w = world_after run.entries w0 in
          let v = world_after es w in
          let at = run.at first h starts (turned.ticks ++ later) opens in
          let e = turned.ends w later at.stands at.on at.ticks in
          let conns : g.conns y ≡ conns_of w = wired.same ∙ conns_held w m.peers w.there at.stands.each in
          let shut : (i : end ≡ Done) → IsClosed (settings_of l) w v = closed w v e.ends in
          subst (λ (r : Start). RunEnds s r later reopens end turns run.gaps s0 t opens first all (world_after all (begun r opens first))) (start_more l run.ticks turned.ticks later)
          (subst (λ (u : World). RunEnds s st later reopens end turns run.gaps s0 t opens first all u) (sym (after_more run.entries es w0)) (record {
            asked = asked_more run.entries es w0 at.asked e.asked;
            came = came_more run.entries es w0 at.came e.came;
            replies = e.fine;
            opens_are = e.opens ∙ at.opens_are;
            grown = subst (λ (u : World). Grows w0 u) (after_more run.entries es w0) (grows all w0);
            logged = λ i. ⊎_elim (λ (j : end ≡ Done). (shut j).log) (λ (j : end ≡ TurnsSpent). absurd (other j)) i;
            last = record {
              earlier = run.entries;
              last = es;
              parts = refl;
              rested = at.stands.rested;
              calls = inr (calls (settings_of l) (conns_of w) (subst (λ (cs : List ℕ). IsTurn (settings_of l) cs res es) conns turn));
              marks = e.marks;
              within = inl (let i = at.events in omega (arith, i, few));
            };
            gaps_are = sym (run.gaps_are first h starts (turned.ticks ++ later) opens);
            kept_log = log_kept m.logged (settings_of l) w (sym same) at.stands.book;
            ticks = λ i. ⊎_elim (λ (j : end ≡ Done). ok (v.ticks ≡ later) e.ticks j) (λ (j : end ≡ TurnsSpent). absurd (other j)) i;
            exit = exits w v e.ends;
            moments = moments_more s g holds reopens (settings_of l) s0 a t w v at.stands.older (is_stays run.entries w0) (is_stays es w ∙ is_stays run.entries w0) at.stands.marked e.marks at.moments e.moments;
            late = e.late;
            copies = λ label tells. copies_behind s g holds reopens end res (settings_of l) (g.conns y) later s0 a t (HoldsMark s holds reopens base' t) (g.given z) m' w es at.stands.older made at.stands.marked turn e label tells (at.copies label tells);
            idle = λ kept copied.
                let ks = kept_parts run.entries es w0 kept in
                let cs = copied_parts run.entries es w0 copied in
                keeps_then s s0 a t (at.idle ks.0 cs.0).keeps (idle_keeps s reopens res a t (e.idle (kept_in es w ks.1) (copied_in es w cs.1)));
            steady = λ kept tells. let ks = kept_parts run.entries es w0 kept in steady_then s.moment s.left s.files_at s.kept s0 a t ((at.only ks.0).steady tells) (only_steady s reopens res a t (e.only (kept_in es w ks.1)) tells);
            done = λ i. (shut i).shut;
            rested = λ i. ⊎_elim (λ (j : end ≡ Done). (shut j).rested) (λ (j : end ≡ TurnsSpent). absurd (other j)) i;
            spent = λ i. absurd (other i);
          }))

  pub run_shut : (l : Option Logged) (b base base' : B) (s0 a t : S) (x y z : W) (c d f : Option (List ℕ)) (p q : E) (m m' : State) (n turns : ℕ) → n < turns → Fresh s t → settings_of m.logged ≡ settings_of l → settings_of m'.logged ≡ settings_of m.logged → Wired (g.conns y) m.peers
      → (run : RunsTo s g holds reopens l b base s0 a x y c d m n) → Lined k (settings_of l) run.gaps p q → Turns s g holds reopens (Ok Shut) base base' a t y z d f m m' → Ends s g k holds reopens Done turns l b s0 t x z c f p q
  run_shut l b base base' s0 a t x y z c d f p q m m' n turns few only same same' wired run lines turned =
      run_ended l b base base' s0 a t x y z c d f p q m m' n turns (Ok Shut) Done few same wired run lines turned (λ i. turned.plays) (λ is conns h. h)
      (λ w v e o left. inl (record { reopen = still_stands s g holds reopens base' t (mark_of v) only e.0.mark o left; log = log_stands m'.logged v e.0.book }))
      (λ w v e i. record { shut = e.1; rested = e.0.rested; log = log_kept m'.logged (settings_of l) v (sym (same' ∙ same)) e.0.book })
      (λ i. tt)
      (λ P h i. h)
      (λ i. absurd cc)

  run_err : (l : Option Logged) (b base base' : B) (s0 a t : S) (x y z : W) (c d f : Option (List ℕ)) (p q : E) (m m' : State) (n turns : ℕ) (err : TurnErr) → n < turns → settings_of m.logged ≡ settings_of l → Wired (g.conns y) m.peers
      → (run : RunsTo s g holds reopens l b base s0 a x y c d m n) → Lined k (settings_of l) run.gaps p q → Turns s g holds reopens (Err err) base base' a t y z d f m m' → Ends s g k holds reopens (end_of_turn err) turns l b s0 t x z c f p q
  run_err l b base base' s0 a t x y z c d f p q m m' n turns turn.Wire few same wired run lines turned =
      run_ended l b base base' s0 a t x y z c d f p q m m' n turns (Err turn.Wire) WireFault few same wired run lines turned (λ i. absurd cc) (λ is conns h. h)
      (λ w v e o left. inl (e o left)) (λ w v e i. absurd cc) (λ i. tt) (λ P h i. absurd cc) (λ i. absurd cc)
  run_err l b base base' s0 a t x y z c d f p q m m' n turns turn.Volume few same wired run lines turned =
      run_ended l b base base' s0 a t x y z c d f p q m m' n turns (Err turn.Volume) VolumeFault few same wired run lines turned (λ i. absurd cc) (λ is conns h. h)
      (λ w v e o left. ⊎_elim (λ r. inl r) (λ r. inr (tt, r)) (e o left)) (λ w v e i. absurd cc) (λ i. absurd (⊎_elim (λ j. cc) (⊎_elim (λ j. cc) (λ j. cc)) i)) (λ P h i. absurd cc) (λ i. absurd cc)
  run_err l b base base' s0 a t x y z c d f p q m m' n turns turn.Full few same wired run lines turned =
      run_ended l b base base' s0 a t x y z c d f p q m m' n turns (Err turn.Full) Full few same wired run lines turned (λ i. absurd cc) (λ is conns h. h)
      (λ w v e o left. ⊎_elim (λ r. inl r) (λ r. inr (tt, r)) (e o left)) (λ w v e i. absurd cc) (λ i. absurd (⊎_elim (λ j. cc) (⊎_elim (λ j. cc) (λ j. cc)) i)) (λ P h i. absurd cc) (λ i. absurd cc)
  run_err l b base base' s0 a t x y z c d f p q m m' n turns turn.Memory few same wired run lines turned =
      run_ended l b base base' s0 a t x y z c d f p q m m' n turns (Err turn.Memory) NoMemory few same wired run lines turned (λ i. absurd cc) (λ is conns h. h)
      (λ w v e o left. ⊎_elim (λ r. inl r) (λ r. inr (tt, r)) (e o left)) (λ w v e i. absurd cc) (λ i. absurd (⊎_elim (λ j. cc) (⊎_elim (λ j. cc) (λ j. cc)) i)) (λ P h i. absurd cc) (λ i. absurd cc)

  pub run_spent : (l : Option Logged) (b base : B) (s0 a : S) (x y : W) (c d : Option (List ℕ)) (p q : E) (m : State) (n turns : ℕ) → n ≡ turns → Fresh s a → settings_of m.logged ≡ settings_of l
      → (run : RunsTo s g holds reopens l b base s0 a x y c d m n) → Lined k (settings_of l) run.gaps p q → Ends s g k holds reopens TurnsSpent turns l b s0 a x y c d p q
  run_spent l b base s0 a x y c d p q m n turns all only same run lines = record {
    entries = run.entries;
    told = run.told;
    served = run.served;
    events = had_all turns n (events_of run.entries) all run.went;
    plays = λ i. run.plays;
    ticks = run.ticks;
    clocked = run.clocked;
    small = run.small;
    unticked = run.unticked;
    gaps = run.gaps;
    tells = lines.tells;
    none_met = lines.none_met;
    ends = λ first h starts later opens.
        let w0 = begun (start_of l run.ticks later) opens first in
        let v = world_after run.entries w0 in
        let at = run.at first h starts later opens in
        record {
          asked = at.asked;
          came = at.came;
          replies = (hold_fine (book_of v) m.peers v.there at.stands.each, at.stands.past);
          opens_are = at.opens_are;
          grown = grows run.entries w0;
          logged = λ i. log_kept m.logged (settings_of l) v (sym same) at.stands.book;
          last = record { earlier = run.entries; last = []; parts = sym (append-nil run.entries); rested = at.stands.rested; calls = inl refl; marks = record { more = inl (refl, refl) }; within = inr (refl, (let i = at.events in omega (arith, i, all))) };
          gaps_are = sym (run.gaps_are first h starts later opens);
          kept_log = log_kept m.logged (settings_of l) v (sym same) at.stands.book;
          ticks = λ i. at.ticks;
          exit = λ o left. inl (record { reopen = still_stands s g holds reopens base a (mark_of v) only at.stands.mark o left; log = log_stands m.logged v at.stands.book });
          moments = at.moments;
          late = λ i. absurd (let j : false ≡ true = i in cc);
          copies = λ label tells. copies_stay reopens label (StandsAt TurnsSpent v [] label) v ((s.names s0).copies label) ((s.names a).copies label) (at.copies label tells);
          idle = λ kept copied. (at.idle kept copied).keeps;
          steady = λ kept tells. (at.only kept).steady tells;
          done = λ i. absurd cc;
          rested = λ i. at.stands.rested;
          spent = λ i. (at.on, at.events ∙ all);
        };
    enough = λ first h starts later opens acts dials given is few same_end.
        let at = run.at first h starts later opens in
        let pl : Plays (Some (unplayed_with acts dials given)) (g.plays y) run.entries = subst (λ (sc : Option Script). Plays sc (g.plays y) run.entries) is run.plays in
        let bound = spent_bound run.entries (start_of l run.ticks later) opens first acts dials given at.asked pl.1 at.on in
        let i = at.events in
        omega (arith, bound, i, all, few);
    sent = λ first h starts later opens acts dials given is done. absurd cc;
  }

  run_fills : (fills wide : Contents → Contents → Type 0) (lacks : ℕ → ℕ → Type 0) (l : Option Logged) (b base : B) (s0 a : S) (x y z : W) (c d : Option (List ℕ)) (m : State) (n : ℕ) (opens : List At) (es : List Entry) (ticks : List ℕ) → (s.moment s0 ≤ s.moment a → (i j : Contents) → fills i j → wide i j) → (run : RunsTo s g holds reopens l b base s0 a x y c d m n)
      → Adds (g.transcript y) (g.transcript z) es → FullTurn fills lacks (HoldsMark s holds reopens base a) (g.given y) m es ticks → FullRun wide lacks (settings_of l) (λ i. HoldsMark s holds reopens b s0 i × StartsAs l i) opens (run.ticks ++ ticks) (g.transcript x) (g.transcript z)
  run_fills fills wide lacks l b base s0 a x y z c d m n opens es ticks wider run told full = record {
    earlier = run.entries ++ dials;
    paused = full.paused;
    busy = full.busy;
    ev = full.ev;
    bytes = full.bytes;
    told = subst (Adds (g.transcript x) (g.transcript z)) (ap (λ (fs : List Entry). run.entries ++ fs) full.is ∙ sym (append_assoc run.entries dials last)) (Adds-then (g.transcript x) (g.transcript y) (g.transcript z) run.entries es run.told told);
    some = λ first start later.
        let st = start_of l run.ticks (ticks ++ later) in
        let w0 = begun st opens first in
        let w = world_after run.entries w0 in
        let v = world_after dials w in
        let at = run.at first start.0 start.1 (ticks ++ later) opens in
        let some = full.some w later at.stands at.on at.ticks in
        let more = fills_wider fills wide lacks v full.ev full.bytes (wider at.moments.leaves.later) some in
        subst (λ (r : Start). FillsIn wide lacks (world_after (run.entries ++ dials) (begun r opens first)) full.ev full.bytes) (start_more l run.ticks ticks later)
        (subst (λ (u : World). FillsIn wide lacks u full.ev full.bytes) (sym (after_more run.entries dials w0)) more);
  }
    where
      dials : List Entry
      dials = entries_of full.calls

      last : List Entry
      last = Event full.paused full.busy full.ev full.bytes ∷ []

  -- the last turn failed
  pub run_failed : (fills : S → S → Contents → Contents → Type 0) (l : Option Logged) (b base base' : B) (s0 a t : S) (x y z : W) (c d f : Option (List ℕ)) (p q : E) (m m' : State) (n turns : ℕ) (err : TurnErr) → n < turns → settings_of m.logged ≡ settings_of l → Wired (g.conns y) m.peers → (s.moment s0 ≤ s.moment a → (i j : Contents) → fills a t i j → fills s0 t i j)
      → (run : RunsTo s g holds reopens l b base s0 a x y c d m n) → Lined k (settings_of l) run.gaps p q → TurnsFull s g holds reopens fills (Err err) base base' a t y z d f m m' → EndsFull s g k holds reopens fills (end_of_turn err) turns l b s0 t x z c f p q
  unfolding run_err run_ended
  run_failed fills l b base base' s0 a t x y z c d f p q m m' n turns turn.Full few same wired wider run lines turned = record {
    ends = run_err l b base base' s0 a t x y z c d f p q m m' n turns turn.Full few same wired run lines turned.turns;
    full = λ is opens. run_fills (fills a t) (fills s0 t) (Lacks s t) l b base s0 a x y z c d m n opens turned.turns.entries turned.turns.ticks wider run turned.turns.told (turned.full refl);
  }
  run_failed fills l b base base' s0 a t x y z c d f p q m m' n turns turn.Wire few same wired wider run lines turned = record { ends = run_err l b base base' s0 a t x y z c d f p q m m' n turns turn.Wire few same wired run lines turned.turns; full = λ is. absurd cc }
  run_failed fills l b base base' s0 a t x y z c d f p q m m' n turns turn.Volume few same wired wider run lines turned = record { ends = run_err l b base base' s0 a t x y z c d f p q m m' n turns turn.Volume few same wired run lines turned.turns; full = λ is. absurd cc }
  run_failed fills l b base base' s0 a t x y z c d f p q m m' n turns turn.Memory few same wired wider run lines turned = record { ends = run_err l b base base' s0 a t x y z c d f p q m m' n turns turn.Memory few same wired run lines turned.turns; full = λ is. absurd cc }

  -- a turn by what it answered
  pub turn_is : (base base' : B) (a t : S) (y z : W) (c d : Option (List ℕ)) (m m' : State) (o i : Outcome) → o ≡ i → Turns s g holds reopens (Ok o) base base' a t y z c d m m' → Turns s g holds reopens (Ok i) base base' a t y z c d m m'
  turn_is base base' a t y z c d m m' o i is turned = subst (λ (r : Outcome). Turns s g holds reopens (Ok r) base base' a t y z c d m m') is turned

  -- ---- turn by turn, with the lines

  -- a run between two turns, and what was written of it
  pub record RunsLined (l : Option Logged) (b base : B) (s0 a : S) (x y : W) (c d : Option (List ℕ)) (p q : E) (m : State) (n : ℕ) : Type 0 where
    pub run : RunsTo s g holds reopens l b base s0 a x y c d m n
    pub lines : Lined k (settings_of l) run.gaps p q

  pub line_start : (l : Option Logged) (b : B) (a : S) (x : W) (c : Option (List ℕ)) (p : E) (m : State) → s.sound a → m ≡ anew l → RunsLined l b b a a x x c c p p m 0
  unfolding run_start
  line_start l b a x c p m sound is = subst (λ (z : State). RunsLined l b b a a x x c c p p z 0) (sym is) (record { run = run_start s g holds reopens l b a x c (anew l) sound refl; lines = lined_start k (settings_of l) p })

  pub line_went : (l : Option Logged) (b base base' : B) (s0 a t : S) (x y z : W) (c d e : Option (List ℕ)) (p q : E) (m m' : State) (n : ℕ) (o : Outcome) → o ≡ Went → settings_of m.logged ≡ settings_of l → RunsLined l b base s0 a x y c d p q m n
      → Turns s g holds reopens (Ok o) base base' a t y z d e m m' → RunsLined l b base' s0 t x z c e p q m' (n + 1)
  unfolding run_more
  line_went l b base base' s0 a t x y z c d e p q m m' n o is same at turned = record {
    run = run_more s g holds reopens l b base base' s0 a t x y z c d e m m' n Went [] refl same at.run (turn_is base base' a t y z d e m m' o Went is turned);
    lines = subst (λ (gs : List (ℕ × ℕ)). Lined k (settings_of l) gs p q) (sym (append-nil at.run.gaps)) at.lines;
  }

  pub line_gap : (l : Option Logged) (b base base' : B) (s0 a t : S) (x y z : W) (c d e : Option (List ℕ)) (p q r : E) (m m' : State) (n : ℕ) (o : Outcome) (held follows : ℕ) (ok : Result (Unit {0}) Fault) → o ≡ Gap held follows → settings_of m.logged ≡ settings_of l → MeetsFor (settings_of m.logged) o
      → HasCause (k.faults q) (k.faults r) ok → OnOk ok (Adds (k.taken q) (k.taken r) (gap_line (held, follows))) → RunsLined l b base s0 a x y c d p q m n
      → Turns s g holds reopens (Ok o) base base' a t y z d e m m' → RunsLined l b base' s0 t x z c e p r m' (n + 1)
  unfolding run_more
  line_gap l b base base' s0 a t x y z c d e p q r m m' n o held follows ok is same meets cause line at turned = record {
    run = run_more s g holds reopens l b base base' s0 a t x y z c d e m m' n (Gap held follows) ((held, follows) ∷ []) refl same at.run (turn_is base base' a t y z d e m m' o (Gap held follows) is turned);
    lines = lined_more k (settings_of l) at.run.gaps p q r held follows ok (subst (λ (set : Settings). MeetsFor set (Gap held follows)) same (subst (MeetsFor (settings_of m.logged)) is meets)) cause line at.lines;
  }

  -- a turn that wasn't the last
  pub line_more : (l : Option Logged) (b base base' : B) (s0 a t : S) (x y z : W) (c d e : Option (List ℕ)) (p q r : E) (m m' : State) (n : ℕ) (o : Outcome) → (o ≡ Shut → ⊥) → settings_of m.logged ≡ settings_of l → MeetsFor (settings_of m.logged) o → TellsGap k o q r → RunsLined l b base s0 a x y c d p q m n
      → Turns s g holds reopens (Ok o) base base' a t y z d e m m' → RunsLined l b base' s0 t x z c e p r m' (n + 1)
  line_more l b base base' s0 a t x y z c d e p q r m m' n Went on same meets told at turned = subst (λ (u : E). RunsLined l b base' s0 t x z c e p u m' (n + 1)) (sym told) (line_went l b base base' s0 a t x y z c d e p q m m' n Went refl same at turned)
  line_more l b base base' s0 a t x y z c d e p q r m m' n (Gap held follows) on same meets told at turned =
      line_gap l b base base' s0 a t x y z c d e p q r m m' n (Gap held follows) held follows told.0 refl same meets told.1 told.2 at turned
  line_more l b base base' s0 a t x y z c d e p q r m m' n Shut on same meets told at turned = absurd (on refl)
