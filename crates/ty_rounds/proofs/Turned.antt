-- A turn, from its steps.
use Rattle.std.proofs.Common.{◌≡◌, ◌⊎◌, ◌≤◌, inl, inr, ⊎_elim, ℕ, suc, Bool, true, false, cond, List, [], ◌∷◌, ◌++◌, length, drop, refl, sym, ap, subst, ◌∙◌, map, arith}
use Rattle.std.proofs.lemmas.Bool.{cond-false, cond-true}
use Rattle.std.proofs.lemmas.List.{append-nil}
use Rattle.std.specs.Prelude.{◌||◌, ◌<◌, ◌^◌, All, Option, Some, None, Result, Ok, Err, OnOk, IsErrOf}
use Rattle.tc_base.specs.Files.{Files}
use Rattle.tc_io.specs.Copies.{Named}
use Rattle.tc_io.specs.Told.{Adds}
use Rattle.tc_io.specs.Script.{Plays}
use Rattle.tc_io.specs.Lines.{given_after, given_dialled}
use Rattle.tc_io.specs.declared.wire.Wire as wire
use Rattle.tc_io.specs.declared.wire.Ev.{Ev}
use Rattle.tc_io.specs.declared.wire.Ev.TheVariants as event
use Rattle.tc_io.specs.declared.wire.Entry.{Entry}
use Rattle.tc_io.specs.declared.wire.Entry.TheVariants.{Dial, Event}
use Rattle.tc_io.specs.declared.wire.Dialled.{Dialled}
use Rattle.tc_io.specs.declared.wire.Dialled.TheVariants.{Conn, NotNow}
use Rattle.tc_space.specs.Frames.{Keeps, OnlyReads, keeps_refl, keeps_then, only_reads_refl, only_reads_then}
use Rattle.tc_space.specs.Moments.{LeavesOnly, Steady}
use Rattle.tc_space.specs.declared.space.Space as space
use Rattle.tc_model.specs.Contents.{Contents, Walk}
use Rattle.ty_base.specs.Holding.{FillsAll, Held, Layout}
use Rattle.ty_ulog.specs.Noting.{Lacks, records_of}
use Rattle.ty_ulog.proofs.Asking.{none_small}
use Rattle.ty_ulog.specs.declared.record.Record.{Record}
use Rattle.ty_ulog.specs.Log.{last_of}
use Rattle.ty_world.specs.Answers.{Introduced}
use Rattle.ty_world.specs.Clients.{Client}
use Rattle.ty_world.specs.Logs.{Settings, news, ticks_after, records_after, file_after}
use Rattle.ty_world.specs.Rounds.{Rounded, round_all, round_of_all, has_any, marks_in, commits_of, feed_all}
use Rattle.ty_world.specs.World.{World, Mark, mark_of, heard, heard_by, unstopped, happens, world_after, rounded, added, shut_after, commits_in, labels_in, is_quiet, is_due, is_some_waiting, IsRested, AllAsked, AllCame, AreFinishing}
use Rattle.ty_world.proofs.RoundLaws.{all_idle, all_quiet, marks_none, news_none, file_none}
use Rattle.ty_world.proofs.Introduced.{introduces, last_gap}
use Rattle.ty_rounds.specs.Books.{Book, IsBook, SameTerms, settings_of}
use Rattle.ty_rounds.specs.Copying.{AreMade, OnlyCopies, RoundCopies}
use Rattle.ty_rounds.specs.Kept.{Reopens, HasMark, HoldsMark}
use Rattle.ty_rounds.specs.Keeping.{added_to, book_after, mark_after, asks_of, KeepsRound, MovesLog, ReopensLog}
use Rattle.ty_rounds.specs.Holding.{AllHold, AllFine, AllGoing, IsFine, State, book_of, Stands, RoundsTo, Same}
use Rattle.ty_rounds.specs.Dialling.{DialErr, DialFailed}
use Rattle.ty_rounds.specs.Joining.{Joins}
use Rattle.ty_rounds.specs.Logging.{LacksRoom}
use Rattle.ty_rounds.specs.Serving.{FillsIn, FillsPart, Rounds, at_commit, of_client}
use Rattle.ty_rounds.specs.Turns.{has_send, Call, entries_of, AreFew, given_behind, conns_after, Called, Dials, Asks, Hears, HearErr, Finishes, IsLone, IsWhole, IsAnyWhole, EndsTurn, or_later, MarksMore, MeetsFor, CameToSends, Idles, OnlyCopied, LeavesEither, ReopensEither, TurnEnds, Turned, Turns, TurnsFull, WireAlone, outcome_of, went}
use Rattle.ty_rounds.specs.Works.{Work, gaps_of}
use Rattle.ty_rounds.specs.declared.batch.Gap.{Gap as GapMet}
use Rattle.ty_rounds.specs.declared.logging.Logged.{Logged}
use Rattle.ty_rounds.specs.declared.peer.Peer.{Peer}
use Rattle.ty_rounds.specs.declared.outcome.Outcome.{Outcome}
use Rattle.ty_rounds.specs.declared.outcome.Outcome.TheVariants.{Went, Gap, Shut}
use Rattle.ty_rounds.specs.declared.outcome.TurnErr.{TurnErr}
use Rattle.ty_rounds.specs.declared.outcome.TurnErr.TheVariants.{Volume, Full, Wire, Memory}
use Rattle.ty_rounds.proofs.Copied.{none_copied, reads_only, only_then, only_none}
use Rattle.ty_rounds.proofs.Entries.{after_more, asked_more, came_more}
use Rattle.ty_rounds.proofs.Telling.{Adds-then, Adds-none, Plays-then}
use Rattle.ty_world.proofs.Fine.{heard_fed, unstopped_fed, round_fed, look_of_fed, feed_fine}
use Rattle.ty_world.proofs.Going.{all_going}
use Rattle.ty_rounds.proofs.Fine.{hold_fine, hold_fed}
use Rattle.ty_rounds.proofs.Leaving.{IsClean, Earlier, book_log, kept_or, kept_stands, left_stands, left_wider, moved_or, none_left, or_exit, steady_exit, then_kept, was_kept}

-- ---- behind the dial

-- the world that the server stands for once the master was dialled
pub record StandsDialled (known : Mark → Type 0) (given : ℕ) (l : Option Logged) (k : Walk) (ps : List Peer) (w : World) : Type 0 where
  pub mark : known (mark_of w)
  pub book : IsBook l (book_of w) w.log
  pub walk : w.walk ≡ k
  pub each : AllHold (book_of w) ps w.there
  pub fine : IsFine w
  pub rested : IsRested w
  pub introduced : Introduced w
  pub done : is_due w ≡ false
  pub on : w.shut ≡ false
  pub older : List Mark
  pub marked : w.marks ≡ mark_of w ∷ older
  pub above : w.given ≤ given

dialled_given : (calls : List Call) (w : World) → (world_after (entries_of calls) w).given ≡ given_behind w.given calls
dialled_given [] w = refl
dialled_given (d ∷ ds) w = dialled_given ds (happens w (Dial d.host d.port d.answer))

given_less : (calls : List Call) (m n : ℕ) → AreFew calls → m ≤ n → given_behind m calls ≤ given_behind n calls
given_less [] m n few le = le
given_less (d ∷ ds) m n few le = subst (λ (xs : List Call). given_behind (given_dialled m d.answer) xs ≤ given_behind (given_dialled n d.answer) xs) (sym few) (one d.answer)
  where
    one : (a : Dialled) → given_dialled m a ≤ given_dialled n a
    one (Conn c) = omega arith
    one NotNow = le

module _ {W : Type 0} (g : wire.Ghosts W) (known : Mark → Type 0) where
  pub dialled_stands : (x y : W) (v : State) (ps : List Peer) (d : Dials g v.logged v.due x y v.peers ps) (w : World) → Stands known (g.given x) v w → w.shut ≡ false → StandsDialled known (g.given y) v.logged v.walk ps (world_after (entries_of d.calls) w)
  dialled_stands x y v ps d w st on =
      let e = d.ends w st.book st.due_is st.each st.rested st.above in
      let u = world_after (entries_of d.calls) w in
      let same = e.same in
      let bk : book_of u ≡ book_of w = λ i. record { is = same.is_same i; records = same.records i } in
      let mk : mark_of w ≡ mark_of u = λ i. record { contents = (sym same.contents) i; log = (sym same.log) i } in
      let each : AllHold (book_of u) ps u.there = subst (λ (b : Book). AllHold b ps u.there) (sym bk) e.each in
      record {
        mark = subst known mk st.mark;
        book = subst (IsBook v.logged (book_of u)) (sym same.log) (subst (λ (b : Book). IsBook v.logged b w.log) (sym bk) st.book);
        walk = same.walk ∙ st.walk_is;
        each = each;
        fine = (hold_fine (book_of u) ps u.there each, subst AllFine (sym same.past) st.past);
        rested = e.rested;
        introduced = introduces (entries_of d.calls) w e.asked st.introduced;
        done = e.done;
        on = same.shut ∙ on;
        older = st.older;
        marked = same.marks ∙ st.marked ∙ ap (λ (m : Mark). m ∷ st.older) mk;
        above = subst (λ (n : ℕ). n ≤ g.given y) (sym (dialled_given d.calls w)) (at_most (given_behind w.given d.calls) (given_behind (g.given x) d.calls) (g.given y) (given_less d.calls w.given (g.given x) d.few st.above) (d.given (g.given x) (omega arith)));
      }
    where
      at_most : (a b c : ℕ) → a ≤ b → b ≤ c → a ≤ c
      at_most a b c p q = omega (arith, p, q)

-- ---- the world behind the event

module _ {W : Type 0} (g : wire.Ghosts W) (x y : W) (known : Mark → Type 0) (l : Option Logged) (k : Walk) (ps : List Peer) (ev : Ev) (asks : Asks g x y ps ev) (w : World) (st : StandsDialled known (g.given x) l k ps w) where
  abbrev pub first : Entry
  first = Event asks.paused asks.busy ev asks.bytes

  abbrev pub mid : World
  mid = happens w first

  abbrev pub ks : List Client
  ks = heard (map unstopped w.there) ev asks.bytes

  pub mid_asked : AllAsked w (first ∷ [])
  mid_asked = let a = asks.asked (book_of w) w st.each in (record { rested = st.rested; pauses = a.0; busily = a.1; running = st.on; dialled_by = st.done }, tt)

  pub mid_came : AllCame w (first ∷ [])
  mid_came = (asks.came w.given st.above, tt)

  pub mid_fine : IsFine mid
  mid_fine = (
    feed_fine w.is w.records (added w (rounded w ev asks.bytes)) (rounded w ev asks.bytes).looked.clients
        (look_of_fed w.records w.is w.records (round_all w.is w.contents w.walk ks) (round_fed w.records w.is w.contents w.walk ks (heard_fed w.records (map unstopped w.there) ev asks.bytes (unstopped_fed w.records w.there (hold_fed (book_of w) ps w.there st.each))))),
    st.fine.1,
  )

  pub mid_going : AllGoing mid.there
  mid_going = all_going w.is w.records mid.records w.contents w.walk w.there ev asks.bytes st.rested.1

  pub mid_marks : MarksMore w mid
  mid_marks = go (marks_in d) refl
    where
      d : Rounded
      d = rounded w ev asks.bytes

      none : marks_in d ≡ false → added w d ≡ []
      none e =
          let n = marks_none d e in
          ap (λ (u : List (List ℕ)). news w.is w.records w.ticks u d.looked.dealt_is.taken) n.0 ∙ ap (λ (t : List Record). news w.is w.records w.ticks [] t) n.1 ∙ news_none w.is w.records w.ticks

      go : (u : Bool) → marks_in d ≡ u → MarksMore w mid
      go true e = record { more = inr (cond-true _ _ _ e) }
      go false e = record { more = inl (cond-false _ _ _ e, λ i. record { contents = all_idle w.is w.records w.contents w.walk ks e i; log = (ap (file_after w.is w.log) (none e) ∙ file_none w.is w.log) i }) }

marks_then : (w m v : World) → MarksMore w m → Same m v → MarksMore w v
marks_then w m v mm same = record { more = ⊎_elim (λ a. inl (same.marks ∙ a.0, same.mark ∙ a.1)) (λ a. inr (same.marks ∙ a ∙ ap (λ (d : Mark). d ∷ w.marks) (sym same.mark))) mm.more }

older_of : (w v : World) (older : List Mark) → w.marks ≡ mark_of w ∷ older → MarksMore w v → (more : List Mark) × (v.marks ≡ mark_of v ∷ more)
older_of w v older is mm = ⊎_elim (λ a. (older, a.0 ∙ is ∙ ap (λ (d : Mark). d ∷ older) (sym a.1))) (λ a. (w.marks, a)) mm.more

still_on : (ev : Ev) (b : Bool) → (ev ≡ event.Shut → ⊥) → b ≡ false → shut_after b ev ≡ false
still_on (event.Opened c) b other e = e
still_on (event.Read c n) b other e = e
still_on (event.Ended c) b other e = e
still_on event.Quiet b other e = e
still_on event.Shut b other e = absurd (other refl)

-- ---- what the code noted is what the world adds

news_same : (is : Settings) (log : List Record) (ticks : List ℕ) (asked asked' : List (List ℕ)) (taken taken' : List Record) → (is.logs ≡ true → asked ≡ asked') → taken ≡ taken' → news is log ticks asked taken ≡ news is log ticks asked' taken'
news_same is log ticks asked asked' taken taken' same e = go is.logs same
  where
    go : (b : Bool) → (b ≡ true → asked ≡ asked') → cond {A = List Record} b (records_of is.own (last_of 0 log) ticks asked ++ taken) [] ≡ cond b (records_of is.own (last_of 0 log) ticks asked' ++ taken') []
    go true f = λ i. records_of is.own (last_of 0 log) ticks (f refl i) ++ e i
    go false f = refl

drop_front : (xs ys : List ℕ) → drop (length xs) (xs ++ ys) ≡ ys
drop_front [] ys = refl
drop_front (x ∷ xs) ys = drop_front xs ys

-- the clock's answers that are left
pub meets_for : (is : Settings) (ev : Ev) (gap : Option GapMet) → (is.master ≡ None → gaps_of gap ≡ []) → MeetsFor is (outcome_of ev (gaps_of gap))
meets_for is ev None met = none ev
  where
    none : (e : Ev) → MeetsFor is (outcome_of e [])
    none (event.Opened c) = tt
    none (event.Read c n) = tt
    none (event.Ended c) = tt
    none event.Quiet = tt
    none event.Shut = tt
meets_for is ev (Some x) met = some ev
  where
    some : (e : Ev) → MeetsFor is (outcome_of e (gaps_of (Some x)))
    some (event.Opened c) = λ none. let e = met none in cc
    some (event.Read c n) = λ none. let e = met none in cc
    some (event.Ended c) = λ none. let e = met none in cc
    some event.Quiet = λ none. let e = met none in cc
    some event.Shut = tt

pub alone_wire : (l l1 : Option Logged) (e : TurnErr) → SameTerms l l1 → WireAlone l1 (Err e) → (settings_of l).logs ≡ false → e ≡ Wire
alone_wire l None e same alone off = alone
alone_wire l (Some x) e same alone off = absurd (let f = ap (λ (is : Settings). is.logs) same ∙ off in cc)

no_ticks : (l : Option Logged) (o : Work) (ticks : List ℕ) → (settings_of l).logs ≡ false → length ticks ≤ asks_of l o → ticks ≡ []
no_ticks None o [] off few = refl
no_ticks None o (t ∷ ts) off few = absurd (omega (arith, few))
no_ticks (Some x) o ticks off few = absurd cc

ticks_left : (l : Option Logged) (is : Settings) (o : Work) (ticks later : List ℕ) (updates : List (List ℕ)) → is ≡ settings_of l → (is.logs ≡ true → o.updates ≡ updates) → length ticks ≡ asks_of l o → ticks_after is (ticks ++ later) updates ≡ later
ticks_left None is o ticks later updates e same each = ap (λ (s : Settings). cond s.logs (drop (length updates) (ticks ++ later)) (ticks ++ later)) e ∙ none ticks each
  where
    none : (xs : List ℕ) → length xs ≡ 0 → xs ++ later ≡ later
    none [] e = refl
    none (x ∷ xs) e = absurd (omega (arith, e))
ticks_left (Some x) is o ticks later updates e same each =
    let on : is.logs ≡ true = ap (λ (s : Settings). s.logs) e in
    ap (λ (b : Bool). cond b (drop (length updates) (ticks ++ later)) (ticks ++ later)) on ∙ ap (λ (n : ℕ). drop n (ticks ++ later)) (ap length (sym (same on)) ∙ sym each) ∙ drop_front ticks later

-- ---- what is said of a world behind the dial is said of the one before it

commits_behind : (calls : List Call) (es : List Entry) (w : World) → commits_in w (entries_of calls ++ es) ≡ commits_in (world_after (entries_of calls) w) es
commits_behind [] es w = refl
commits_behind (d ∷ ds) es w = commits_behind ds es (happens w (Dial d.host d.port d.answer))

labels_behind : (calls : List Call) (es : List Entry) (w : World) → labels_in w (entries_of calls ++ es) ≡ labels_in (world_after (entries_of calls) w) es
labels_behind [] es w = refl
labels_behind (d ∷ ds) es w = labels_behind ds es (happens w (Dial d.host d.port d.answer))

sends_behind : (calls : List Call) (es : List Entry) → has_send (entries_of calls ++ es) ≡ has_send es
sends_behind [] es = refl
sends_behind (d ∷ ds) es = sends_behind ds es

came_behind : (r : Result Outcome TurnErr) (calls : List Call) (es : List Entry) → CameToSends r (entries_of calls ++ es) → CameToSends r es
came_behind (Ok x) calls es h = tt
came_behind (Err Wire) calls es h = tt
came_behind (Err Memory) calls es h = sym (sends_behind calls es) ∙ h
came_behind (Err Volume) calls es h = sym (sends_behind calls es) ∙ h
came_behind (Err Full) calls es h = sym (sends_behind calls es) ∙ h

module _ {S : Type 0} (s : space.Ghosts S) (reopens : Files → Contents → Type 0) where
  behind_dial : (result : Result Outcome TurnErr) (later : List ℕ) (a a' : S) (known : Mark → Type 0) (given : ℕ) (v' : State) (calls : List Call) (w : World) (es : List Entry) (u : World)
      → Called w u → AllAsked w (entries_of calls) → AllCame w (entries_of calls) → u ≡ world_after (entries_of calls) w
      → Turned s reopens result later a a' known given v' u (world_after es u) es
      → Turned s reopens result later a a' known given v' w (world_after (entries_of calls ++ es) w) (entries_of calls ++ es)
  behind_dial result later a a' known given v' calls w es u same asked came is t =
      let v = world_after es u in
      let e : v ≡ world_after (entries_of calls ++ es) w = ap (world_after es) is ∙ sym (after_more (entries_of calls) es w) in
      let labels : labels_in u es ≡ labels_in w (entries_of calls ++ es) = ap (λ (z : World). labels_in z es) is ∙ sym (labels_behind calls es w) in
      let commits : commits_in u es ≡ commits_in w (entries_of calls ++ es) = ap (λ (z : World). commits_in z es) is ∙ sym (commits_behind calls es w) in
      subst (λ (z : World). Turned s reopens result later a a' known given v' w z (entries_of calls ++ es)) e (record {
        asked = asked_more (entries_of calls) es w asked (subst (λ (z : World). AllAsked z es) is t.asked);
        came = came_more (entries_of calls) es w came (subst (λ (z : World). AllCame z es) is t.came);
        fine = t.fine;
        marks = record { more = ⊎_elim (λ p. inl (p.0 ∙ same.marks, p.1 ∙ mk)) (λ p. inr (p ∙ ap (λ (l : List Mark). mark_of v ∷ l) same.marks)) t.marks.more };
        opens = t.opens ∙ same.opens;
        ticks = t.ticks;
        moments = record { leaves = left_wider s (ReopensEither reopens u v) (ReopensEither reopens w v) a a' (either v) t.moments.leaves };
        idle = λ none unlabelled. t.idle (commits ∙ none) (labels ∙ unlabelled);
        only = λ none. t.only (commits ∙ none);
        copies = record {
          copies = λ tells. subst (λ (ls : List (List ℕ)). RoundCopies (s.now a') ls (s.names a) (s.names a')) labels (t.copies.copies tells);
          made = λ to tells. subst (λ (ls : List (List ℕ)). AreMade (s.now a') ls (s.names a')) labels (t.copies.made (came_behind result calls es to) tells);
        };
        copied = λ tells. ⊎_elim (λ p. inl (p.0, (λ to. sym labels ∙ p.1 (came_behind result calls es to)))) (λ st. inr st) (t.copied tells);
        late = λ some. t.late (sym (sends_behind calls es) ∙ some);
        ends = ends result v t.ends;
      })
    where
      mk : mark_of u ≡ mark_of w
      mk = λ i. record { contents = same.contents i; log = same.log i }

      bk : book_of u ≡ book_of w
      bk = λ i. record { is = same.is_same i; records = same.records i }

      either : (v : World) (o : Option Files) → ReopensEither reopens u v o → ReopensEither reopens w v o
      either v o x = ⊎_elim (λ r. inl r) (λ r. inr (subst (λ (c : Book). ReopensLog reopens c o (mark_of w)) bk (subst (λ (m : Mark). ReopensLog reopens (book_of u) o m) mk r))) x

      ends : (r : Result Outcome TurnErr) (v : World) → TurnEnds s reopens r a' known given v' u v → TurnEnds s reopens r a' known given v' w v
      ends (Ok Went) v h = (h.0, h.1, h.2 ∙ ap suc same.events, h.3 ∙ same.gaps)
      ends (Ok (Gap n f)) v h = (h.0, h.1, h.2 ∙ ap suc same.events, h.3 ∙ ap (λ (l : List (ℕ × ℕ)). l ++ (n, f) ∷ []) same.gaps)
      ends (Ok Shut) v h = (h.0, h.1, h.2 ∙ ap suc same.events, h.3 ∙ same.gaps)
      ends (Err Wire) v h = h
      ends (Err Memory) v h = λ o l. either v o (h o l)
      ends (Err Volume) v h = λ o l. either v o (h o l)
      ends (Err Full) v h = λ o l. either v o (h o l)

-- ---- how a turn ends

module _ {S B W : Type 0} (s : space.Ghosts S) (g : wire.Ghosts W) (own : ℕ → Type 0) (layout : Files → Layout) (not_log : own 2 → ⊥) (holds : B → Files → Contents → Type 0) (reopens : Files → Contents → Type 0) (fills : S → S → Contents → Contents → Type 0) where
  abbrev Known : B → S → Mark → Type 0
  Known = HoldsMark s holds reopens

  -- a limit was reached in the round, or in what it adds to the update log
  pub record FullRest (b : B) (a a' : S) (given : ℕ) (l : Option Logged) (k : Walk) (ps : List Peer) (es : List Entry) (ticks : List ℕ) : Type 0 where
    pub paused : List ℕ
    pub busy : Bool
    pub ev : Ev
    pub bytes : List ℕ
    pub is : es ≡ Event paused busy ev bytes ∷ []
    pub some : (w : World) (later : List ℕ) → StandsDialled (Known b a) given l k ps w → w.ticks ≡ ticks ++ later → FillsIn (fills a a') (Lacks s a') w ev bytes

  -- a turn behind its dial
  pub record Rest (result : Result Outcome TurnErr) (b b' : B) (a a' : S) (y z : W) (p q : Option (List ℕ)) (l : Option Logged) (k : Walk) (ps : List Peer) (v' : State) : Type 0 where
    pub entries : List Entry
    pub told : Adds (g.transcript y) (g.transcript z) entries
    pub plays : OnOk result (Plays (g.plays y) (g.plays z) entries)
    pub calls : EndsTurn (settings_of l).logs (g.conns y) result entries
    pub ticks : List ℕ
    pub clocked : Adds p q ticks
    pub small : All (λ t. t < 2 ^ 64) ticks
    pub unticked : (settings_of l).logs ≡ false → ticks ≡ []
    pub full : IsErrOf result Full → FullRest b a a' (g.given y) l k ps entries ticks
    pub ends : (w : World) (later : List ℕ) → StandsDialled (Known b a) (g.given y) l k ps w → w.ticks ≡ ticks ++ later → Turned s reopens result later a a' (Known b' a') (g.given z) v' w (world_after entries w) entries

  pub whole_turn : (result : Result Outcome TurnErr) (b b' : B) (a a' : S) (x y z : W) (p q : Option (List ℕ)) (v v' : State) (ps : List Peer) (d : Dials g v.logged v.due x y v.peers ps)
      → Rest result b b' a a' y z p q v.logged v.walk ps v' → TurnsFull s g holds reopens fills result b b' a a' x z p q v v'
  whole_turn result b b' a a' x y z p q v v' ps d r = record {
    turns = record {
      entries = entries_of d.calls ++ r.entries;
      told = Adds-then (g.transcript x) (g.transcript y) (g.transcript z) (entries_of d.calls) r.entries d.told r.told;
      plays = plays result r.plays;
      calls = record { calls = d.calls; few = d.few; to_master = d.to_master; behind = r.entries; parts = refl; ends = subst (λ (c : List ℕ). EndsTurn (settings_of v.logged).logs c result r.entries) d.conns r.calls };
      ticks = r.ticks;
      clocked = r.clocked;
      small = r.small;
      unticked = r.unticked;
      ends = λ w later st on ticks.
          let e = d.ends w st.book st.due_is st.each st.rested st.above in
          behind_dial s reopens result later a a' (Known b' a') (g.given z) v' d.calls w r.entries (world_after (entries_of d.calls) w) e.same e.asked e.came refl
          (r.ends (world_after (entries_of d.calls) w) later (dialled_stands g (Known b a) x y v ps d w st on) (e.same.ticks ∙ ticks));
    };
    full = λ is. let f = r.full is in record {
      calls = d.calls;
      paused = f.paused;
      busy = f.busy;
      ev = f.ev;
      bytes = f.bytes;
      is = ap (λ (es : List Entry). entries_of d.calls ++ es) f.is;
      some = λ w later st on ticks.
          let e = d.ends w st.book st.due_is st.each st.rested st.above in
          f.some (world_after (entries_of d.calls) w) later (dialled_stands g (Known b a) x y v ps d w st on) (e.same.ticks ∙ ticks);
    };
  }
    where
      plays : (o : Result Outcome TurnErr) → OnOk o (Plays (g.plays y) (g.plays z) r.entries) → OnOk o (Plays (g.plays x) (g.plays z) (entries_of d.calls ++ r.entries))
      plays (Ok u) h = Plays-then (g.plays x) (g.plays y) (g.plays z) (entries_of d.calls) r.entries d.plays h
      plays (Err u) h = tt

  -- ---- before the round

  idles_same : (a : S) (e : TurnErr) → IsClean s a → Idles s reopens (Err e) a a
  idles_same a Wire clean = only_reads_refl s a clean.sound
  idles_same a Memory clean = keeps_refl s a
  idles_same a Volume clean = keeps_refl s a
  idles_same a Full clean = keeps_refl s a

  only_same : (a : S) (e : TurnErr) → IsClean s a → OnlyCopied s reopens (Err e) a a
  only_same a Wire clean = only_none s a clean.sound
  only_same a Memory clean = (keeps_refl s a).steady
  only_same a Volume clean = (keeps_refl s a).steady
  only_same a Full clean = (keeps_refl s a).steady

  -- the log of a world that the server stands for
  own_log : (l : Option Logged) (w : World) → IsBook l (book_of w) w.log → (o : Option Files) → Reopens reopens o (mark_of w) → ReopensLog reopens (book_of w) o (mark_of w)
  own_log l w bk o r = record { reopen = r; log = book_log l (book_of w) w.log bk }

  ends_same : (a : S) (b' : B) (given : ℕ) (v' : State) (e : TurnErr) (w v : World) → ((o : Option Files) → s.left a (s.moment a) o → ReopensLog reopens (book_of w) o (mark_of w)) → mark_of v ≡ mark_of w → book_of v ≡ book_of w → TurnEnds s reopens (Err e) a (Known b' a) given v' w v
  ends_same a b' given v' Wire w v f is bk = λ o l. subst (λ (c : Book). ReopensLog reopens c o (mark_of v)) (sym bk) (subst (λ (m : Mark). ReopensLog reopens (book_of w) o m) (sym is) (f o l))
  ends_same a b' given v' Memory w v f is bk = λ o l. inr (f o l)
  ends_same a b' given v' Volume w v f is bk = λ o l. inr (f o l)
  ends_same a b' given v' Full w v f is bk = λ o l. inr (f o l)

  none_calls : (logs : Bool) (conns : List ℕ) (e : TurnErr) → (e ≡ Wire) ⊎ (e ≡ Memory) → EndsTurn logs conns (Err e) []
  none_calls logs conns Wire which = inl refl
  none_calls logs conns Memory which = inl refl
  none_calls logs conns Volume (inl e) = absurd cc
  none_calls logs conns Volume (inr e) = absurd cc
  none_calls logs conns Full (inl e) = absurd cc
  none_calls logs conns Full (inr e) = absurd cc

  never_full : (e : TurnErr) → (e ≡ Wire) ⊎ (e ≡ Memory) → e ≡ Full → ⊥
  never_full e (inl w) f = let n : Wire ≡ Full = sym w ∙ f in cc
  never_full e (inr m) f = let n : Memory ≡ Full = sym m ∙ f in cc

  -- the dial failed
  dial_labels : (calls : List Call) (w : World) → labels_in w (entries_of calls) ≡ []
  dial_labels [] w = refl
  dial_labels (d ∷ ds) w = dial_labels ds (happens w (Dial d.host d.port d.answer))

  dial_sends : (calls : List Call) → has_send (entries_of calls) ≡ false
  dial_sends [] = refl
  dial_sends (d ∷ ds) = dial_sends ds

  dial_failed : (b b' : B) (a : S) (x y : W) (p : Option (List ℕ)) (v v' : State) (e : TurnErr) → DialFailed g v.logged v.due x y v.peers → IsClean s a → (e ≡ Wire) ⊎ (e ≡ Memory) → TurnsFull s g holds reopens fills (Err e) b b' a a x y p p v v'
  dial_failed b b' a x y p v v' e f clean which = record {
    full = λ is. absurd (never_full e which (let n : e ≡ Full = cc in n));
    turns = record {
      entries = entries_of f.calls;
      told = f.told;
      plays = tt;
      calls = record { calls = f.calls; few = f.few; to_master = f.to_master; behind = []; parts = sym (append-nil (entries_of f.calls)); ends = none_calls (settings_of v.logged).logs (conns_after (g.conns x) f.calls) e which };
      ticks = [];
      clocked = Adds-none p;
      small = none_small;
      unticked = λ off. refl;
      ends = λ w later st on ticks.
          let es = entries_of f.calls in
          let d = f.ends w st.book st.due_is st.each st.rested st.above in
          let u = world_after es w in
          let mk : mark_of u ≡ mark_of w = λ i. record { contents = d.same.contents i; log = d.same.log i } in
          record {
            asked = d.asked;
            came = d.came;
            fine = d.fine (hold_fine (book_of w) v.peers w.there st.each, st.past);
            marks = record { more = inl (d.same.marks, mk) };
            opens = d.same.opens;
            ticks = tt;
            moments = record { leaves = none_left s (ReopensEither reopens w u) a };
            idle = λ none unlabelled. idles_same a e clean;
            only = λ none. only_same a e clean;
            copies = none_copied s (Err e) a a (labels_in w es) es refl (λ came. dial_labels f.calls w);
            copied = λ tells. inl (refl, (λ came. dial_labels f.calls w));
            late = λ some. absurd (let none = dial_sends f.calls in cc);
            ends = ends_same a b' (g.given y) v' e w u (λ o q. own_log v.logged w st.book o (left_stands s reopens holds b a (mark_of w) clean st.mark o q)) mk (λ i. record { is = d.same.is_same i; records = d.same.records i });
          };
    };
  }

  pub dial_ends : (b b' : B) (a : S) (x y : W) (p : Option (List ℕ)) (v v' : State) (e : TurnErr) → DialErr g v.logged v.due x y v.peers e → IsClean s a → TurnsFull s g holds reopens fills (Err e) b b' a a x y p p v v'
  dial_ends b b' a x y p v v' Wire d clean = dial_failed b b' a x y p v v' Wire d clean (inl refl)
  dial_ends b b' a x y p v v' Memory d clean = dial_failed b b' a x y p v v' Memory d clean (inr refl)
  dial_ends b b' a x y p v v' Volume d clean = absurd d
  dial_ends b b' a x y p v v' Full d clean = absurd d

  -- nothing was asked for
  none_asked : (b b' : B) (a : S) (y z : W) (p : Option (List ℕ)) (l : Option Logged) (k : Walk) (ps : List Peer) (v' : State) (e : TurnErr) → Adds (g.transcript y) (g.transcript z) [] → IsClean s a → (e ≡ Wire) ⊎ (e ≡ Memory) → Rest (Err e) b b' a a y z p p l k ps v'
  none_asked b b' a y z p l k ps v' e told clean which = record {
    entries = [];
    told = told;
    plays = tt;
    calls = none_calls (settings_of l).logs (g.conns y) e which;
    ticks = [];
    clocked = Adds-none p;
    small = none_small;
    unticked = λ off. refl;
    full = λ is. absurd (never_full e which (let n : e ≡ Full = cc in n));
    ends = λ w later st ticks. record {
      asked = tt;
      came = tt;
      fine = st.fine;
      marks = record { more = inl (refl, refl) };
      opens = refl;
      ticks = tt;
      moments = record { leaves = none_left s (ReopensEither reopens w w) a };
      idle = λ none unlabelled. idles_same a e clean;
      only = λ none. only_same a e clean;
      copies = none_copied s (Err e) a a [] [] refl (λ came. refl);
      copied = λ tells. inl (refl, (λ came. refl));
      late = λ some. absurd cc;
      ends = ends_same a b' (g.given z) v' e w w (λ o q. own_log l w st.book o (left_stands s reopens holds b a (mark_of w) clean st.mark o q)) refl refl;
    };
  }

  lone : (x y : W) (ps : List Peer) (ev : Ev) (asks : Asks g x y ps ev) → IsLone (Event asks.paused asks.busy ev asks.bytes ∷ [])
  lone x y ps ev asks = record { paused = asks.paused; busy = asks.busy; ev = ev; bytes = asks.bytes; is = refl }

  alone : (logs : Bool) (A B : Type 0) → A → or_later logs A B
  alone true A B x = inl x
  alone false A B x = x

  -- it came to no send
  lone_came : (e : TurnErr) (labels : List (List ℕ)) (paused : List ℕ) (busy : Bool) (ev : Ev) (bytes : List ℕ) → (e ≡ Wire → ⊥) → CameToSends (Err e) (Event paused busy ev bytes ∷ []) → labels ≡ []
  lone_came Wire labels paused busy ev bytes other came = absurd (other refl)
  lone_came Memory labels paused busy ev bytes other came = absurd cc
  lone_came Volume labels paused busy ev bytes other came = absurd cc
  lone_came Full labels paused busy ev bytes other came = absurd cc

  pub hear_ends : (b b' : B) (a : S) (y z : W) (p : Option (List ℕ)) (l : Option Logged) (k : Walk) (ps : List Peer) (v' : State) (e : TurnErr) → HearErr g y z ps e → IsClean s a → Rest (Err e) b b' a a y z p p l k ps v'
  hear_ends b b' a y z p l k ps v' Volume err clean = absurd err
  hear_ends b b' a y z p l k ps v' Full err clean = absurd err
  hear_ends b b' a y z p l k ps v' Wire err clean = none_asked b b' a y z p l k ps v' Wire err clean (inl refl)
  hear_ends b b' a y z p l k ps v' Memory (inl err) clean = none_asked b b' a y z p l k ps v' Memory err clean (inr refl)
  hear_ends b b' a y z p l k ps v' Memory (inr err) clean = record {
    entries = Event err.1.paused err.1.busy err.0 err.1.bytes ∷ [];
    told = err.1.told;
    plays = tt;
    calls = inr (alone (settings_of l).logs _ _ (lone y z ps err.0 err.1));
    ticks = [];
    clocked = Adds-none p;
    small = none_small;
    unticked = λ off. refl;
    full = λ is. absurd cc;
    ends = λ w later st ticks. record {
      asked = mid_asked g y z (Known b a) l k ps err.0 err.1 w st;
      came = mid_came g y z (Known b a) l k ps err.0 err.1 w st;
      fine = mid_fine g y z (Known b a) l k ps err.0 err.1 w st;
      marks = mid_marks g y z (Known b a) l k ps err.0 err.1 w st;
      opens = refl;
      ticks = tt;
      moments = record { leaves = none_left s (ReopensEither reopens w (mid g y z (Known b a) l k ps err.0 err.1 w st)) a };
      idle = λ none unlabelled. keeps_refl s a;
      only = λ none. (keeps_refl s a).steady;
      copies = none_copied s (Err Memory) a a (rounded w err.0 err.1.bytes).round.made.labels (Event err.1.paused err.1.busy err.0 err.1.bytes ∷ []) refl (λ came. absurd cc);
      copied = λ tells. inl (refl, (λ came. absurd cc));
      late = λ some. absurd cc;
      ends = λ o q. inr (own_log l w st.book o (left_stands s reopens holds b a (mark_of w) clean st.mark o q));
    };
  }

  lone_turn : (logs : Bool) (x y : W) (ps : List Peer) (ev : Ev) (asks : Asks g x y ps ev) (e : TurnErr) → (e ≡ Wire → ⊥) → EndsTurn logs (g.conns x) (Err e) (Event asks.paused asks.busy ev asks.bytes ∷ [])
  lone_turn logs x y ps ev asks Wire other = absurd (other refl)
  lone_turn logs x y ps ev asks Memory other = inr (alone logs _ _ (lone x y ps ev asks))
  lone_turn logs x y ps ev asks Volume other = alone logs _ _ (lone x y ps ev asks)
  lone_turn logs x y ps ev asks Full other = lone x y ps ev asks

  idle_err : (a a' : S) (e : TurnErr) → (e ≡ Wire → ⊥) → Keeps s a a' → Idles s reopens (Err e) a a'
  idle_err a a' Wire other keeps = absurd (other refl)
  idle_err a a' Memory other keeps = keeps
  idle_err a a' Volume other keeps = keeps
  idle_err a a' Full other keeps = keeps

  only_err : (a a' : S) (e : TurnErr) → (e ≡ Wire → ⊥) → (s.tells → Steady s.moment s.files_at s.left s.kept a a') → OnlyCopied s reopens (Err e) a a'
  only_err a a' Wire other steady = absurd (other refl)
  only_err a a' Memory other steady = steady
  only_err a a' Volume other steady = steady
  only_err a a' Full other steady = steady

  exit_err : (a : S) (b' : B) (given : ℕ) (v' : State) (e : TurnErr) → (e ≡ Wire → ⊥) → (w v : World) → ((o : Option Files) → s.left a (s.moment a) o → ReopensEither reopens w v o) → TurnEnds s reopens (Err e) a (Known b' a) given v' w v
  exit_err a b' given v' Wire other w v f = absurd (other refl)
  exit_err a b' given v' Memory other w v f = f
  exit_err a b' given v' Volume other w v f = f
  exit_err a b' given v' Full other w v f = f

  -- ---- the round failed

  pub round_ends : (b b' : B) (a a1 : S) (x y : W) (p : Option (List ℕ)) (l : Option Logged) (k : Walk) (ps ps1 : List Peer) (v' : State) (ev : Ev) (e : TurnErr) → Hears g x y ps ps1 ev → (e ≡ Wire → ⊥) → Keeps s a a1 → IsClean s a → Earlier s a1
      → (e ≡ Full → (m : Contents) → Held s holds b a m → (bk : Book) (js : List Client) → bk.is ≡ settings_of l → AllHold bk ps1 js → FillsPart bk.is bk.records (fills a a1) m k js) → Rest (Err e) b b' a a1 x y p p l k ps v'
  round_ends b b' a a1 x y p l k ps ps1 v' ev e hears other keeps clean earlier full = record {
    entries = Event hears.asks.paused hears.asks.busy ev hears.asks.bytes ∷ [];
    told = hears.asks.told;
    plays = tt;
    calls = lone_turn (settings_of l).logs x y ps ev hears.asks e other;
    ticks = [];
    clocked = Adds-none p;
    small = none_small;
    unticked = λ off. refl;
    full = λ is. record {
      paused = hears.asks.paused;
      busy = hears.asks.busy;
      ev = ev;
      bytes = hears.asks.bytes;
      is = refl;
      some = λ w later st ticks.
          let js = heard_by w ev hears.asks.bytes in
          let full_is : e ≡ Full = cc in
          inl (subst (λ (c : Walk). FillsPart w.is w.records (fills a a1) w.contents c js) (sym st.walk) (full full_is w.contents st.mark.has.held (book_of w) js st.book.is_same (hears.holds (book_of w) w.there st.each)));
    };
    ends = λ w later st ticks.
        let t = st.mark.has.held.0 in
        let kw = kept_stands s reopens holds b a (mark_of w) clean st.mark in
        let v = mid g x y (Known b a) l k ps ev hears.asks w st in
        let two = then_kept s (ReopensEither reopens w v) a a a1 (λ o is. inr (own_log l w st.book o (was_kept s reopens a o (mark_of w) kw is))) (none_left s (ReopensEither reopens w v) a) (keeps.steady t) in
        record {
          asked = mid_asked g x y (Known b a) l k ps ev hears.asks w st;
          came = mid_came g x y (Known b a) l k ps ev hears.asks w st;
          fine = mid_fine g x y (Known b a) l k ps ev hears.asks w st;
          marks = mid_marks g x y (Known b a) l k ps ev hears.asks w st;
          opens = refl;
          ticks = tt;
          moments = record { leaves = two };
          idle = λ none unlabelled. idle_err a a1 e other keeps;
          only = λ none. only_err a a1 e other keeps.steady;
          copies = none_copied s (Err e) a a1 (rounded w ev hears.asks.bytes).round.made.labels (Event hears.asks.paused hears.asks.busy ev hears.asks.bytes ∷ []) keeps.same_names (lone_came e _ hears.asks.paused hears.asks.busy ev hears.asks.bytes other);
          copied = λ tells. inl (keeps.same_names, (lone_came e _ hears.asks.paused hears.asks.busy ev hears.asks.bytes other));
          late = λ some. absurd cc;
          ends = exit_err a1 b' (g.given y) v' e other w v (λ o q. inr (own_log l w st.book o (steady_exit s reopens a a1 (mark_of w) (λ o q. clean.only o t q) earlier kw (keeps.steady t) o q)));
        };
  }

  -- ---- the round and its records

  -- the mark that is held before the records of the round are written
  abbrev pub base_mark : World → Ev → List ℕ → Mark
  base_mark w ev bytes = record { contents = (rounded w ev bytes).looked.dealt_is.contents; log = w.log }

  -- what the round made, of any world that the server stood for
  mid_round : (b b1 : B) (a a1 : S) (x y : W) (l : Option Logged) (k k1 : Walk) (ps ps1 ps2 : List Peer) (ev : Ev) (o : Work) (hears : Hears g x y ps ps1 ev) (w : World) (st : StandsDialled (Known b a) (g.given x) l k ps w) → Rounds s own layout holds l o b b1 a a1 k k1 ps1 ps2
      → RoundsTo (book_of w) o (Held s holds b1 a1) k1 ps2 (rounded w ev hears.asks.bytes)
  mid_round b b1 a a1 x y l k k1 ps ps1 ps2 ev o hears w st rounds =
      let js = heard (map unstopped w.there) ev hears.asks.bytes in
      subst (λ (z : Walk). RoundsTo (book_of w) o (Held s holds b1 a1) k1 ps2 (round_of_all w.is w.records w.contents z js)) (sym st.walk)
      (rounds.each w.contents st.mark.has.held (book_of w) js st.book.is_same (hears.holds (book_of w) w.there st.each))

  mid_has : (b b1 : B) (a a1 : S) (x y : W) (l : Option Logged) (k k1 : Walk) (ps ps1 ps2 : List Peer) (ev : Ev) (o : Work) (hears : Hears g x y ps ps1 ev) (w : World) (st : StandsDialled (Known b a) (g.given x) l k ps w) → Rounds s own layout holds l o b b1 a a1 k k1 ps1 ps2
      → HasMark s holds b1 a1 (base_mark w ev hears.asks.bytes)
  mid_has b b1 a a1 x y l k k1 ps ps1 ps2 ev o hears w st rounds = record {
    held = (mid_round b b1 a a1 x y l k k1 ps ps1 ps2 ev o hears w st rounds).contents;
    log = rounds.served.leaves.others.same st.mark.has.held.0 2 not_log ∙ st.mark.has.log;
  }

  -- what the code adds is what the world adds
  added_is : (o : Work) (w : World) (d : Rounded) (ticks : List ℕ) → w.ticks ≡ ticks → (w.is.logs ≡ true → o.updates ≡ d.round.made.updates) → o.taken ≡ d.looked.dealt_is.taken → added_to (book_of w) ticks o ≡ added w d
  added_is o w d ticks t asked taken =
      news_same w.is w.records ticks o.updates d.round.made.updates o.taken d.looked.dealt_is.taken asked taken ∙ ap (λ (ts : List ℕ). news w.is w.records ts d.round.made.updates d.looked.dealt_is.taken) (sym t)

  mark_is : (o : Work) (w : World) (paused : List ℕ) (busy : Bool) (ev : Ev) (bytes : List ℕ) (ticks : List ℕ) → added_to (book_of w) ticks o ≡ added w (rounded w ev bytes)
      → mark_after (book_of w) ticks o (base_mark w ev bytes) ≡ mark_of (happens w (Event paused busy ev bytes))
  mark_is o w paused busy ev bytes ticks e = λ i. record { contents = (rounded w ev bytes).looked.dealt_is.contents; log = file_after w.is w.log (e i) }

  book_is : (o : Work) (w : World) (paused : List ℕ) (busy : Bool) (ev : Ev) (bytes : List ℕ) (ticks : List ℕ) → added_to (book_of w) ticks o ≡ added w (rounded w ev bytes)
      → book_after (book_of w) ticks o ≡ book_of (happens w (Event paused busy ev bytes))
  book_is o w paused busy ev bytes ticks e = λ i. record { is = w.is; records = records_after w.is w.records (e i) }

  or_either : (x y : Bool) → (x || y) ≡ true → (x ≡ true) ⊎ (y ≡ true)
  or_either true y e = inl refl
  or_either false y e = inr e

  none_taken : (rs : List Record) → has_any rs ≡ true → rs ≡ [] → ⊥
  none_taken [] e is = absurd cc
  none_taken (r ∷ rs) e is = absurd cc

  -- that of the undo log was reached in a round that has anything to commit
  fills_committing : (fills : Contents → Contents → Type 0) (u : World) (ev : Ev) (bytes : List ℕ) → commits_of (rounded u ev bytes) ≡ true → FillsAll fills → FillsPart u.is u.records fills u.contents u.walk (heard_by u ev bytes)
  fills_committing fills u ev bytes commits all =
      let js = heard_by u ev bytes in
      let d = rounded u ev bytes in
      ⊎_elim (λ e. of_client (record { front = js; back = []; parts = sym (append-nil js); next = (e, all) })) (λ e. at_commit (none_taken d.looked.dealt_is.taken e) all) (or_either d.round.made.commits (has_any d.looked.dealt_is.taken) commits)

  moves_behind : (a b : S) (c d : Book) (m n : Mark) → c ≡ d → m ≡ n → MovesLog s reopens a b c m → MovesLog s reopens a b d n
  moves_behind a b c d m n bk mk x = subst (λ (k : Book). MovesLog s reopens a b k n) bk (subst (MovesLog s reopens a b c) mk x)

  -- at the exit
  exit_log : (a b : S) (l : Option Logged) (w v : World) → IsBook l (book_of w) w.log → ((o : Option Files) → s.left a (s.moment a) o → o ≡ s.kept a) → Earlier s b → Reopens reopens (s.kept a) (mark_of w)
      → LeavesOnly s.moment s.left a b (λ o. Reopens reopens o (mark_of w) ⊎ ReopensLog reopens (book_of v) o (mark_of v)) → (o : Option Files) → s.left b (s.moment b) o → ReopensEither reopens w v o
  exit_log a b l w v bk only earlier k logs o q = ⊎_elim (λ r. inl r) (λ r. inr (own_log l w bk o r)) (or_exit s reopens (λ o. ReopensLog reopens (book_of v) o (mark_of v)) a b (mark_of w) only earlier k logs o q)

  -- at any moment
  both_logs : (a b : S) (l : Option Logged) (w v : World) → IsBook l (book_of w) w.log → LeavesOnly s.moment s.left a b (λ o. Reopens reopens o (mark_of w) ⊎ ReopensLog reopens (book_of v) o (mark_of v)) → LeavesEither s reopens a b w v
  both_logs a b l w v bk x = record { leaves = left_wider s (λ o. Reopens reopens o (mark_of w) ⊎ ReopensLog reopens (book_of v) o (mark_of v)) (ReopensEither reopens w v) a b (λ o p. ⊎_elim (λ r. inr (own_log l w bk o r)) (λ q. inl q) p) x }

  is_full : {e : TurnErr} → e ≡ Full → IsErrOf {T = Unit {0}} (Err e) Full
  is_full is = subst (λ (x : TurnErr). IsErrOf {T = Unit {0}} (Err x) Full) (sym is) refl

  -- where it wasn't kept, or was and its copies failed
  pub keep_ends : (b b1 b2 b' : B) (a a1 a2 : S) (x y : W) (p q : Option (List ℕ)) (l l1 : Option Logged) (k k1 : Walk) (ps ps1 ps2 : List Peer) (v' : State) (ev : Ev) (o : Work) (e : TurnErr) → Hears g x y ps ps1 ev → (e ≡ Wire → ⊥) → Rounds s own layout holds l o b b1 a a1 k k1 ps1 ps2 → Keeps s a a1
      → KeepsRound s holds reopens o p q l l1 b1 b2 a1 a2 (Err e) → (o.commits ≡ false → OnlyReads s a1 a2) → s.names a2 ≡ s.names a1 → IsClean s a → Earlier s a2 → (s.tells → s.log_full a2 → FillsAll (fills a a2)) → Rest (Err e) b b' a a2 x y p q l k ps v'
  keep_ends b b1 b2 b' a a1 a2 x y p q l l1 k k1 ps ps1 ps2 v' ev o e hears other rounds keeps kr idle names clean earlier all = record {
    entries = Event hears.asks.paused hears.asks.busy ev hears.asks.bytes ∷ [];
    told = hears.asks.told;
    plays = tt;
    calls = lone_turn (settings_of l).logs x y ps ev hears.asks e other;
    ticks = kr.ticks;
    clocked = kr.told;
    small = kr.small;
    unticked = λ off. no_ticks l o kr.ticks off kr.few;
    full = λ is. record {
      paused = hears.asks.paused;
      busy = hears.asks.busy;
      ev = ev;
      bytes = hears.asks.bytes;
      is = refl;
      some = λ w later st ticks.
          let rd = mid_round b b1 a a1 x y l k k1 ps ps1 ps2 ev o hears w st rounds in
          let has = mid_has b b1 a a1 x y l k k1 ps ps1 ps2 ev o hears w st rounds in
          let full_is : e ≡ Full = cc in
          let full = kr.full (is_full full_is) in
          let news_are = added_is o w (rounded w ev hears.asks.bytes) (kr.ticks ++ later) ticks rd.updates_is rd.taken_is in
          ⊎_elim (λ f. inl (fills_committing (fills a a2) w ev hears.asks.bytes (sym rd.commits_is ∙ full.0) (let t = has.held.0 in all t (f t))))
          (λ lacks. inr (subst (λ (rs : List Record). LacksRoom (Lacks s a2) (length w.log) rs) news_are (lacks (base_mark w ev hears.asks.bytes) (book_of w) later has st.book))) full.1;
    };
    ends = λ w later st ticks.
        let t = st.mark.has.held.0 in
        let kw = kept_stands s reopens holds b a (mark_of w) clean st.mark in
        let v = mid g x y (Known b a) l k ps ev hears.asks w st in
        let d = rounded w ev hears.asks.bytes in
        let rd = mid_round b b1 a a1 x y l k k1 ps ps1 ps2 ev o hears w st rounds in
        let has = mid_has b b1 a a1 x y l k k1 ps ps1 ps2 ev o hears w st rounds in
        let e1 = added_is o w d (kr.ticks ++ later) ticks rd.updates_is rd.taken_is in
        let mk = mark_is o w hears.asks.paused hears.asks.busy ev hears.asks.bytes (kr.ticks ++ later) e1 in
        let bk = book_is o w hears.asks.paused hears.asks.busy ev hears.asks.bytes (kr.ticks ++ later) e1 in
        let moves = moves_behind a1 a2 (book_after (book_of w) (kr.ticks ++ later) o) (book_of v) (mark_after (book_of w) (kr.ticks ++ later) o (base_mark w ev hears.asks.bytes)) (mark_of v) bk mk (kr.moments (base_mark w ev hears.asks.bytes) (book_of w) later has st.book) in
        let logs = moved_or s reopens (λ o. ReopensLog reopens (book_of v) o (mark_of v)) a a1 a2 (mark_of w) kw (keeps.steady t) moves.leaves in
        let two = both_logs a a2 l w v st.book logs in
        record {
          asked = mid_asked g x y (Known b a) l k ps ev hears.asks w st;
          came = mid_came g x y (Known b a) l k ps ev hears.asks w st;
          fine = mid_fine g x y (Known b a) l k ps ev hears.asks w st;
          marks = mid_marks g x y (Known b a) l k ps ev hears.asks w st;
          opens = refl;
          ticks = tt;
          moments = two;
          idle = λ none unlabelled. idle_err a a2 e other (keeps_then s a a1 a2 keeps (idle (rd.commits_is ∙ none)).keeps);
          only = λ none. only_err a a2 e other (keeps_then s a a1 a2 keeps (idle (rd.commits_is ∙ none)).keeps).steady;
          copies = none_copied s (Err e) a a2 d.round.made.labels (Event hears.asks.paused hears.asks.busy ev hears.asks.bytes ∷ []) (names ∙ keeps.same_names) (lone_came e _ hears.asks.paused hears.asks.busy ev hears.asks.bytes other);
          copied = λ tells. inl ((names ∙ keeps.same_names), (lone_came e _ hears.asks.paused hears.asks.busy ev hears.asks.bytes other));
          late = λ some. absurd cc;
          ends = exit_err a2 b' (g.given y) v' e other w v (exit_log a a2 l w v st.book (λ o q. clean.only o t q) earlier kw logs);
        };
  }

  -- ---- what only reads, or makes copies, keeps what is known

  known_by : (b : B) (a a' : S) (m : Mark) → (s.tells → (f : ℕ) → s.now a' f ≡ s.now a f) → Known b a m → Known b a' m
  known_by b a a' m files h =
      let t = h.has.held.0 in
      let same : s.now a ≡ s.now a' = λ i f. sym (files t f) i in
      record {
        has = record { held = (t, subst (λ (fs : Files). holds b fs m.contents) same h.has.held.1); log = files t 2 ∙ h.has.log };
        stand = subst (λ (fs : Files). reopens fs m.contents) same h.stand;
      }

  -- where there is nothing to commit, the files stand as they stood
  stood : (b : B) (a a1 : S) (m : Mark) (c : Contents) → Known b a m → OnlyReads s a a1 → c ≡ m.contents → reopens (s.now a1) c
  stood b a a1 m c h reads is = subst (reopens (s.now a1)) (sym is) (subst (λ (files : Files). reopens files m.contents) (λ i f. sym (reads.files h.has.held.0 f) i) h.stand)

  -- ---- what was kept, and its copies

  pub record Steps (b b1 b2 : B) (a a1 a2 ac : S) (x y : W) (p q : Option (List ℕ)) (l l1 : Option Logged) (k k1 : Walk) (ps ps1 ps2 : List Peer) (ev : Ev) (o : Work) : Type 0 where
    pub hears : Hears g x y ps ps1 ev
    pub rounds : Rounds s own layout holds l o b b1 a a1 k k1 ps1 ps2
    pub keeps : Keeps s a a1
    pub kept : KeepsRound s holds reopens o p q l l1 b1 b2 a1 a2 (Ok tt)
    pub idle : o.commits ≡ false → OnlyReads s a1 a2
    pub names : s.names a2 ≡ s.names a1
    pub copies : s.tells → RoundCopies (s.now a2) o.labels (s.names a2) (s.names ac)
    pub only : OnlyCopies s a2 ac
    pub none : o.labels ≡ [] → ac ≡ a2
    pub clean : IsClean s a
    pub clean_kept : IsClean s a2

  -- behind the event, whose world this is, before the sends
  record Midway (b2 : B) (a ac : S) (l l1 : Option Logged) (k1 : Walk) (ps2 : List Peer) (later : List ℕ) (o : Work) (w m : World) (d : Rounded) : Type 0 where
    tells : s.tells
    known : Known b2 ac (mark_of m)
    stands : Reopens reopens (s.kept ac) (mark_of m)
    book : IsBook l1 (book_of m) m.log
    ticks : m.ticks ≡ later
    hold : (ps3 : List Peer) → Joins o l l1 ps2 ps3 → AllHold (book_of m) ps3 m.there
    labels : o.labels ≡ d.round.made.labels
    gap : o.gap ≡ d.looked.dealt_is.gap
    walk : k1 ≡ m.walk
    copies : RoundCopies (s.now ac) d.round.made.labels (s.names a) (s.names ac)
    logs : LeavesOnly s.moment s.left a ac (λ o. Reopens reopens o (mark_of w) ⊎ ReopensLog reopens (book_of m) o (mark_of m))
    idle : commits_of d ≡ false → d.round.made.labels ≡ [] → OnlyReads s a ac
    only : commits_of d ≡ false → OnlyCopies s a ac

  midway : (b b1 b2 : B) (a a1 a2 ac : S) (x y : W) (p q : Option (List ℕ)) (l l1 : Option Logged) (k k1 : Walk) (ps ps1 ps2 : List Peer) (ev : Ev) (o : Work) (f : Steps b b1 b2 a a1 a2 ac x y p q l l1 k k1 ps ps1 ps2 ev o) (w : World) (later : List ℕ) (st : StandsDialled (Known b a) (g.given x) l k ps w) → w.ticks ≡ f.kept.ticks ++ later
      → Midway b2 a ac l l1 k1 ps2 later o w (mid g x y (Known b a) l k ps ev f.hears.asks w st) (rounded w ev f.hears.asks.bytes)
  midway b b1 b2 a a1 a2 ac x y p q l l1 k k1 ps ps1 ps2 ev o f w later st ticks =
      let hears = f.hears in
      let bytes = hears.asks.bytes in
      let t = st.mark.has.held.0 in
      let all = f.kept.ticks ++ later in
      let d = rounded w ev bytes in
      let js = heard (map unstopped w.there) ev bytes in
      let m = mid g x y (Known b a) l k ps ev hears.asks w st in
      let rd = mid_round b b1 a a1 x y l k k1 ps ps1 ps2 ev o hears w st f.rounds in
      let has = mid_has b b1 a a1 x y l k k1 ps ps1 ps2 ev o hears w st f.rounds in
      let e1 = added_is o w d all ticks rd.updates_is rd.taken_is in
      let mk = mark_is o w hears.asks.paused hears.asks.busy ev bytes all e1 in
      let bk = book_is o w hears.asks.paused hears.asks.busy ev bytes all e1 in
      let base = base_mark w ev bytes in
      let stand = f.kept.kept.marks base (book_of w) later has st.book (λ e. stood b a a1 (mark_of w) base.contents st.mark (f.rounds.served.leaves.reads e) (all_idle w.is w.records w.contents w.walk js (all_quiet w.is w.records w.contents w.walk js (sym rd.commits_is ∙ e)))) in
      let known2 : Known b2 a2 (mark_of m) = subst (Known b2 a2) mk stand.holds_it in
      let kept2 = kept_stands s reopens holds b2 a2 (mark_of m) f.clean_kept known2 in
      let kw = kept_stands s reopens holds b a (mark_of w) f.clean st.mark in
      let moves = moves_behind a1 a2 (book_after (book_of w) all o) (book_of m) (mark_after (book_of w) all o base) (mark_of m) bk mk (f.kept.moments base (book_of w) later has st.book) in
      let book : IsBook l1 (book_of m) m.log = subst (λ (c : Book). IsBook l1 c m.log) bk (subst (λ (n : Mark). IsBook l1 (book_after (book_of w) all o) n.log) mk stand.book) in
      let st2 = f.only.steady t in
      let reads = λ (none : commits_of d ≡ false). only_reads_then s a a1 a2 (f.rounds.served.leaves.reads (rd.commits_is ∙ none)) (f.idle (rd.commits_is ∙ none)) in
      record {
        tells = t;
        known = known_by b2 a2 ac (mark_of m) f.only.files known2;
        stands = record { files = kept2.files; is = st2.same ∙ kept2.is; stand = kept2.stand };
        book = book;
        ticks = ap (λ (ts : List ℕ). ticks_after w.is ts d.round.made.updates) ticks ∙ ticks_left l w.is o f.kept.ticks later d.round.made.updates st.book.is_same rd.updates_is f.kept.kept.each;
        hold = λ ps3 joins. subst (λ (c : Book). AllHold c ps3 (feed_all w.is c.records d.looked.clients)) bk (joins.each (book_of w) w.log (mark_after (book_of w) all o base).log all st.book stand.book d.looked.clients rd.each);
        labels = rd.labels_is;
        gap = rd.gap_is;
        walk = rd.walk_is;
        copies =
            subst (λ (fs : Files). RoundCopies fs d.round.made.labels (s.names a) (s.names ac)) (λ i g. sym (f.only.files t g) i)
            (subst (λ (n : Named). RoundCopies (s.now a2) d.round.made.labels n (s.names ac)) (f.names ∙ f.keeps.same_names)
            (subst (λ (ls : List (List ℕ)). RoundCopies (s.now a2) ls (s.names a2) (s.names ac)) rd.labels_is (f.copies t)));
        logs =
            kept_or s reopens (λ o. ReopensLog reopens (book_of m) o (mark_of m)) a a2 ac (mark_of w) (λ o is. own_log l1 m book o (record { files = kept2.files; is = is ∙ kept2.is; stand = kept2.stand })) st2
            (moved_or s reopens (λ o. ReopensLog reopens (book_of m) o (mark_of m)) a a1 a2 (mark_of w) kw (f.keeps.steady t) moves.leaves);
        idle = λ none unlabelled. subst (OnlyReads s a) (sym (f.none (rd.labels_is ∙ unlabelled))) (reads none);
        only = λ none. only_then s a a2 ac (reads_only s a a2 (reads none)) f.only;
      }

  -- its copies failed
  pub copy_ends : (b b1 b2 b' : B) (a a1 a2 ac : S) (x y : W) (p q : Option (List ℕ)) (l l1 : Option Logged) (k k1 : Walk) (ps ps1 ps2 : List Peer) (v' : State) (ev : Ev) (o : Work) → Steps b b1 b2 a a1 a2 ac x y p q l l1 k k1 ps ps1 ps2 ev o → Earlier s ac → Rest (Err Volume) b b' a ac x y p q l k ps v'
  copy_ends b b1 b2 b' a a1 a2 ac x y p q l l1 k k1 ps ps1 ps2 v' ev o f earlier = record {
    entries = Event f.hears.asks.paused f.hears.asks.busy ev f.hears.asks.bytes ∷ [];
    told = f.hears.asks.told;
    plays = tt;
    calls = lone_turn (settings_of l).logs x y ps ev f.hears.asks Volume (λ e. cc);
    ticks = f.kept.ticks;
    clocked = f.kept.told;
    small = f.kept.small;
    unticked = λ off. no_ticks l o f.kept.ticks off f.kept.few;
    full = λ is. absurd cc;
    ends = λ w later st ticks.
        let t = st.mark.has.held.0 in
        let kw = kept_stands s reopens holds b a (mark_of w) f.clean st.mark in
        let m = mid g x y (Known b a) l k ps ev f.hears.asks w st in
        let n = midway b b1 b2 a a1 a2 ac x y p q l l1 k k1 ps ps1 ps2 ev o f w later st ticks in
        record {
          asked = mid_asked g x y (Known b a) l k ps ev f.hears.asks w st;
          came = mid_came g x y (Known b a) l k ps ev f.hears.asks w st;
          fine = mid_fine g x y (Known b a) l k ps ev f.hears.asks w st;
          marks = mid_marks g x y (Known b a) l k ps ev f.hears.asks w st;
          opens = refl;
          ticks = tt;
          moments = both_logs a ac l w m st.book n.logs;
          idle = λ none unlabelled. (n.idle none unlabelled).keeps;
          only = λ none. (n.only none).steady;
          copies = record { copies = λ tells. n.copies; made = λ came. absurd cc };
          copied = λ tells. inr (record { contents = n.known.stand; log = n.known.has.log });
          late = λ some. absurd cc;
          ends = exit_log a ac l w m st.book (λ o q. f.clean.only o t q) earlier kw n.logs;
        };
  }

  -- ---- sends and closings

  -- at the world behind all entries
  record Final (ok : Result (Unit {0}) TurnErr) (o : Work) (v' : State) (b2 : B) (given : ℕ) (later : List ℕ) (a a3 : S) (w v : World) (ev : Ev) (d : Rounded) (es : List Entry) : Type 0 where
    asked : AllAsked w es
    came : AllCame w es
    fine : IsFine v
    marks : MarksMore w v
    opens : v.opens ≡ w.opens
    ticks : v.ticks ≡ later
    moments : LeavesEither s reopens a a3 w v
    idle : commits_of d ≡ false → d.round.made.labels ≡ [] → OnlyReads s a a3
    only : commits_of d ≡ false → OnlyCopies s a a3
    copies : RoundCopies (s.now a3) d.round.made.labels (s.names a) (s.names a3)
    made : AreMade (s.now a3) d.round.made.labels (s.names a3)
    mark : Known b2 a3 (mark_of v)
    book : IsBook v'.logged (book_of v) v.log
    gaps : v.gaps ≡ w.gaps ++ o.gap
    last : ev ≡ event.Shut → v.gaps ≡ w.gaps
    shut : v.shut ≡ shut_after w.shut ev
    events : v.events ≡ suc w.events
    done : OnOk ok (Stands (Known b2 a3) given v' v)

  on_ok : {X E : Type 0} (r : Result X E) (P Q : Type 0) → (P → Q) → OnOk r P → OnOk r Q
  on_ok (Ok x) P Q f h = f h
  on_ok (Err e) P Q f h = tt

  -- all steps, before it is known how the last one ended
  pub record AllSteps (b b1 b2 : B) (a a1 a2 ac a3 : S) (x y z : W) (p q : Option (List ℕ)) (l l1 : Option Logged) (k k1 : Walk) (ps ps1 ps2 ps3 ps4 : List Peer) (ev : Ev) (o : Work) (ok : Result (Unit {0}) TurnErr) : Type 0 where
    pub steps : Steps b b1 b2 a a1 a2 ac x y p q l l1 k k1 ps ps1 ps2 ev o
    pub made : s.tells → AreMade (s.now a2) o.labels (s.names ac)
    pub joins : Joins o l l1 ps2 ps3
    pub finishes : Finishes s g l1 ac a3 y z ok ps3 ps4

  final : (b b1 b2 : B) (a a1 a2 ac a3 : S) (x y z : W) (p q : Option (List ℕ)) (l l1 : Option Logged) (k k1 : Walk) (ps ps1 ps2 ps3 ps4 : List Peer) (ev : Ev) (o : Work) (ok : Result (Unit {0}) TurnErr) (f : AllSteps b b1 b2 a a1 a2 ac a3 x y z p q l l1 k k1 ps ps1 ps2 ps3 ps4 ev o ok)
      (w : World) (later : List ℕ) → StandsDialled (Known b a) (g.given x) l k ps w → w.ticks ≡ f.steps.kept.ticks ++ later
      → let e = Event f.steps.hears.asks.paused f.steps.hears.asks.busy ev f.steps.hears.asks.bytes in
      Final ok o (record { logged = l1; due = is_quiet ev; walk = k1; peers = ps4 }) b2 (g.given z) later a a3 w (world_after f.finishes.entries (happens w e)) ev (rounded w ev f.steps.hears.asks.bytes) (e ∷ f.finishes.entries)
  final b b1 b2 a a1 a2 ac a3 x y z p q l l1 k k1 ps ps1 ps2 ps3 ps4 ev o ok f w later st ticks =
      let asks = f.steps.hears.asks in
      let d = rounded w ev asks.bytes in
      let m = mid g x y (Known b a) l k ps ev asks w st in
      let n = midway b b1 b2 a a1 a2 ac x y p q l l1 k k1 ps ps1 ps2 ev o f.steps w later st ticks in
      let t = n.tells in
      let reads = f.finishes.reads in
      let asked1 = mid_asked g x y (Known b a) l k ps ev asks w st in
      let fin = f.finishes.ends m (record { told = t; book = subst (IsBook l1 (book_of m)) (sym n.known.has.log) n.book }) (n.hold ps3 f.joins) (mid_going g x y (Known b a) l k ps ev asks w st) (mid_fine g x y (Known b a) l k ps ev asks w st) in
      let v = world_after f.finishes.entries m in
      let same = fin.same in
      let asked : AllAsked w (Event asks.paused asks.busy ev asks.bytes ∷ f.finishes.entries) = (asked1.0, fin.asked) in
      let mm = marks_then w m v (mid_marks g x y (Known b a) l k ps ev asks w st) same in
      let known3 : Known b2 a3 (mark_of v) = subst (Known b2 a3) (sym same.mark) (known_by b2 ac a3 (mark_of m) reads.files n.known) in
      let bk : book_of m ≡ book_of v = λ i. record { is = (sym same.is_same) i; records = (sym same.records) i } in
      let kept : Reopens reopens (s.kept ac) (mark_of v) = subst (Reopens reopens (s.kept ac)) (sym same.mark) n.stands in
      let two = both_logs a ac l w v st.book (subst (λ (c : Book). LeavesOnly s.moment s.left a ac (λ o. Reopens reopens o (mark_of w) ⊎ ReopensLog reopens c o (mark_of v))) bk (subst (λ (c : Mark). LeavesOnly s.moment s.left a ac (λ o. Reopens reopens o (mark_of w) ⊎ ReopensLog reopens (book_of m) o c)) (sym same.mark) n.logs)) in
      let book : IsBook l1 (book_of v) v.log = subst (λ (c : Book). IsBook l1 c v.log) bk (subst (λ (c : Mark). IsBook l1 (book_of m) c.log) (sym same.mark) n.book) in
      let files : s.now ac ≡ s.now a3 = λ i g. sym (reads.files t g) i in
      let files2 : s.now a2 ≡ s.now a3 = (λ i g. sym (f.steps.only.files t g) i) ∙ files in
      record {
        asked = asked;
        came = ((mid_came g x y (Known b a) l k ps ev asks w st).0, fin.came);
        fine = fin.fine;
        marks = mm;
        opens = same.opens;
        ticks = same.ticks ∙ n.ticks;
        moments = record { leaves = then_kept s (ReopensEither reopens w v) a ac a3 (λ o is. inl (own_log l1 v book o (was_kept s reopens ac o (mark_of v) kept is))) two.leaves (reads.keeps.steady t) };
        idle = λ none unlabelled. only_reads_then s a ac a3 (n.idle none unlabelled) reads;
        only = λ none. only_then s a ac a3 (n.only none) (reads_only s ac a3 reads);
        copies =
            subst (λ (fs : Files). RoundCopies fs d.round.made.labels (s.names a) (s.names a3)) files
            (subst (λ (c : Named). RoundCopies (s.now ac) d.round.made.labels (s.names a) c) (sym reads.keeps.same_names) n.copies);
        made =
            subst (λ (fs : Files). AreMade fs d.round.made.labels (s.names a3)) files2
            (subst (λ (c : Named). AreMade (s.now a2) d.round.made.labels c) (sym reads.keeps.same_names) (subst (λ (ls : List (List ℕ)). AreMade (s.now a2) ls (s.names ac)) n.labels (f.made t)));
        mark = known3;
        book = book;
        gaps = same.gaps ∙ ap (λ (gs : List (ℕ × ℕ)). w.gaps ++ gs) (sym n.gap);
        last = λ is. same.gaps ∙ no_gap w asks.paused asks.busy ev asks.bytes is st (sym asked1.0.busily ∙ (asks.came w.given st.above).last is);
        shut = same.shut;
        events = same.events;
        done = on_ok ok _ _ (λ h. let older = older_of w v st.older st.marked mm in record {
          mark = known3;
          book = book;
          due_is = same.due;
          walk_is = same.walk ∙ sym n.walk;
          each = subst (λ (c : Book). AllHold c ps4 v.there) bk h.0;
          past = fin.fine.1;
          rested = h.1;
          introduced = introduces (Event asks.paused asks.busy ev asks.bytes ∷ f.finishes.entries) w asked st.introduced;
          older = older.0;
          marked = older.1;
          above = subst (λ (c : ℕ). c ≤ g.given z) (sym same.given) (subst (λ (c : ℕ). given_after w.given ev ≤ c) (sym f.finishes.given) (asks.above w.given st.above));
        }) fin.done;
      }
    where
      -- the last event meets no gap
      no_gap : (w : World) (paused : List ℕ) (busy : Bool) (ev : Ev) (bytes : List ℕ) → ev ≡ event.Shut → StandsDialled (Known b a) (g.given x) l k ps w → is_some_waiting w ≡ false → (happens w (Event paused busy ev bytes)).gaps ≡ w.gaps
      no_gap w paused busy ev bytes is st none = ap (λ (c : Ev). (happens w (Event paused busy c bytes)).gaps) is ∙ last_gap w paused busy bytes st.introduced.short st.rested none

  whole : (b b1 b2 : B) (a a1 a2 ac a3 : S) (x y z : W) (p q : Option (List ℕ)) (l l1 : Option Logged) (k k1 : Walk) (ps ps1 ps2 ps3 ps4 : List Peer) (ev : Ev) (o : Work) (ok : Result (Unit {0}) TurnErr) (f : AllSteps b b1 b2 a a1 a2 ac a3 x y z p q l l1 k k1 ps ps1 ps2 ps3 ps4 ev o ok)
      → IsWhole (g.conns x) ev (Event f.steps.hears.asks.paused f.steps.hears.asks.busy ev f.steps.hears.asks.bytes ∷ f.finishes.entries)
  whole b b1 b2 a a1 a2 ac a3 x y z p q l l1 k k1 ps ps1 ps2 ps3 ps4 ev o ok f = record {
    paused = f.steps.hears.asks.paused;
    busy = f.steps.hears.asks.busy;
    bytes = f.steps.hears.asks.bytes;
    behind = f.finishes.entries;
    is = refl;
    finishing = subst (λ (c : List ℕ). AreFinishing c f.finishes.entries) f.steps.hears.conns f.finishes.calls;
  }

  -- a send or a closing failed, or a feed couldn't be read
  pub finish_ends : (b b1 b2 b' : B) (a a1 a2 ac a3 : S) (x y z : W) (p q : Option (List ℕ)) (l l1 : Option Logged) (k k1 : Walk) (ps ps1 ps2 ps3 ps4 : List Peer) (v' : State) (ev : Ev) (o : Work) (ok : Result (Unit {0}) TurnErr) (e : TurnErr) → (e ≡ Full → ⊥) → ((settings_of l).logs ≡ false → e ≡ Wire) → IsClean s a3
      → AllSteps b b1 b2 a a1 a2 ac a3 x y z p q l l1 k k1 ps ps1 ps2 ps3 ps4 ev o ok → Rest (Err e) b b' a a3 x z p q l k ps v'
  finish_ends b b1 b2 b' a a1 a2 ac a3 x y z p q l l1 k k1 ps ps1 ps2 ps3 ps4 v' ev o ok e other logged clean f = record {
    entries = es;
    told = Adds-then (g.transcript x) (g.transcript y) (g.transcript z) (first ∷ []) f.finishes.entries f.steps.hears.asks.told f.finishes.told;
    plays = tt;
    calls = calls (settings_of l).logs e other logged;
    ticks = f.steps.kept.ticks;
    clocked = f.steps.kept.told;
    small = f.steps.kept.small;
    unticked = λ off. no_ticks l o f.steps.kept.ticks off f.steps.kept.few;
    full = λ is. absurd (other (let n : e ≡ Full = cc in n));
    ends = λ w later st ticks. let n = final b b1 b2 a a1 a2 ac a3 x y z p q l l1 k k1 ps ps1 ps2 ps3 ps4 ev o ok f w later st ticks in record {
      asked = n.asked;
      came = n.came;
      fine = n.fine;
      marks = n.marks;
      opens = n.opens;
      ticks = tt;
      moments = n.moments;
      idle = λ none unlabelled. idles e (n.idle none unlabelled);
      only = λ none. onlies e (n.only none);
      copies = record { copies = λ tells. n.copies; made = λ came tells. n.made };
      copied = λ tells. inr (record { contents = n.mark.stand; log = n.mark.has.log });
      late = λ some. left_stands s reopens holds b2 a3 _ clean n.mark;
      ends = ends e w _ (λ o q. own_log l1 (world_after f.finishes.entries (happens w first)) n.book o (left_stands s reopens holds b2 a3 (mark_of (world_after f.finishes.entries (happens w first))) clean n.mark o q));
    };
  }
    where
      first : Entry
      first = Event f.steps.hears.asks.paused f.steps.hears.asks.busy ev f.steps.hears.asks.bytes

      es : List Entry
      es = first ∷ f.finishes.entries

      any : IsAnyWhole (g.conns x) es
      any = (ev, whole b b1 b2 a a1 a2 ac a3 x y z p q l l1 k k1 ps ps1 ps2 ps3 ps4 ev o ok f)

      calls : (logs : Bool) (e : TurnErr) → (e ≡ Full → ⊥) → (logs ≡ false → e ≡ Wire) → EndsTurn logs (g.conns x) (Err e) es
      calls logs Wire other kept = inr any
      calls true Memory other kept = inr (inr any)
      calls false Memory other kept = absurd (let e = kept refl in cc)
      calls true Volume other kept = inr any
      calls false Volume other kept = absurd (let e = kept refl in cc)
      calls logs Full other kept = absurd (other refl)

      idles : (e : TurnErr) → OnlyReads s a a3 → Idles s reopens (Err e) a a3
      idles Wire r = r
      idles Memory r = r.keeps
      idles Volume r = r.keeps
      idles Full r = r.keeps

      onlies : (e : TurnErr) → OnlyCopies s a a3 → OnlyCopied s reopens (Err e) a a3
      onlies Wire r = r
      onlies Memory r = r.steady
      onlies Volume r = r.steady
      onlies Full r = r.steady

      ends : (e : TurnErr) → (w v : World) → ((o : Option Files) → s.left a3 (s.moment a3) o → ReopensLog reopens (book_of v) o (mark_of v)) → TurnEnds s reopens (Err e) a3 (Known b' a3) (g.given z) v' w v
      ends Wire w v h = h
      ends Memory w v h = λ o q. inl (h o q)
      ends Volume w v h = λ o q. inl (h o q)
      ends Full w v h = λ o q. inl (h o q)

  -- ---- a turn that came to its end

  went_calls : (logs : Bool) (conns : List ℕ) (ev : Ev) (gap : Option GapMet) (es : List Entry) → IsWhole conns ev es → EndsTurn logs conns (Ok (outcome_of ev (gaps_of gap))) es
  went_calls logs conns (event.Opened c) None es h = (event.Opened c, h, λ e. cc)
  went_calls logs conns (event.Opened c) (Some x) es h = (event.Opened c, h, λ e. cc)
  went_calls logs conns (event.Read c n) None es h = (event.Read c n, h, λ e. cc)
  went_calls logs conns (event.Read c n) (Some x) es h = (event.Read c n, h, λ e. cc)
  went_calls logs conns (event.Ended c) None es h = (event.Ended c, h, λ e. cc)
  went_calls logs conns (event.Ended c) (Some x) es h = (event.Ended c, h, λ e. cc)
  went_calls logs conns event.Quiet None es h = (event.Quiet, h, λ e. cc)
  went_calls logs conns event.Quiet (Some x) es h = (event.Quiet, h, λ e. cc)
  went_calls logs conns event.Shut gap es h = h

  -- what is known behind it
  record WentSo (known : Mark → Type 0) (given : ℕ) (v' : State) (w v : World) (ev : Ev) (gap : Option GapMet) : Type 0 where
    stands : Stands known given v' v
    on : w.shut ≡ false
    shut : v.shut ≡ shut_after w.shut ev
    events : v.events ≡ suc w.events
    gaps : v.gaps ≡ w.gaps ++ gaps_of gap
    last : ev ≡ event.Shut → v.gaps ≡ w.gaps

  went_on : (a3 : S) (known : Mark → Type 0) (given : ℕ) (v' : State) (w v : World) (ev : Ev) (gap : Option GapMet) → WentSo known given v' w v ev gap → (ev ≡ event.Shut → ⊥) → TurnEnds s reopens (Ok (went (gaps_of gap))) a3 known given v' w v
  went_on a3 known given v' w v ev None h other = (h.stands, h.shut ∙ still_on ev w.shut other h.on, h.events, h.gaps ∙ append-nil w.gaps)
  went_on a3 known given v' w v ev (Some x) h other = (h.stands, h.shut ∙ still_on ev w.shut other h.on, h.events, h.gaps)

  went_ended : (a3 : S) (known : Mark → Type 0) (given : ℕ) (v' : State) (w v : World) (ev : Ev) (gap : Option GapMet) → WentSo known given v' w v ev gap → TurnEnds s reopens (Ok (outcome_of ev (gaps_of gap))) a3 known given v' w v
  went_ended a3 known given v' w v (event.Opened c) gap h = went_on a3 known given v' w v (event.Opened c) gap h (λ e. cc)
  went_ended a3 known given v' w v (event.Read c n) gap h = went_on a3 known given v' w v (event.Read c n) gap h (λ e. cc)
  went_ended a3 known given v' w v (event.Ended c) gap h = went_on a3 known given v' w v (event.Ended c) gap h (λ e. cc)
  went_ended a3 known given v' w v event.Quiet gap h = went_on a3 known given v' w v event.Quiet gap h (λ e. cc)
  went_ended a3 known given v' w v event.Shut gap h = (h.stands, h.shut, h.events, h.last refl)

  pub went_ends : (b b1 b2 : B) (a a1 a2 ac a3 : S) (x y z : W) (p q : Option (List ℕ)) (l l1 : Option Logged) (k k1 : Walk) (ps ps1 ps2 ps3 ps4 : List Peer) (ev : Ev) (o : Work) (gap : Option GapMet) → o.gap ≡ gaps_of gap → IsClean s a3
      → AllSteps b b1 b2 a a1 a2 ac a3 x y z p q l l1 k k1 ps ps1 ps2 ps3 ps4 ev o (Ok tt) → Rest (Ok (outcome_of ev (gaps_of gap))) b b2 a a3 x z p q l k ps (record { logged = l1; due = is_quiet ev; walk = k1; peers = ps4 })
  went_ends b b1 b2 a a1 a2 ac a3 x y z p q l l1 k k1 ps ps1 ps2 ps3 ps4 ev o gap met clean f = record {
    entries = es;
    told = Adds-then (g.transcript x) (g.transcript y) (g.transcript z) (first ∷ []) f.finishes.entries f.steps.hears.asks.told f.finishes.told;
    plays = Plays-then (g.plays x) (g.plays y) (g.plays z) (first ∷ []) f.finishes.entries f.steps.hears.asks.plays f.finishes.plays;
    calls = went_calls (settings_of l).logs (g.conns x) ev gap es (whole b b1 b2 a a1 a2 ac a3 x y z p q l l1 k k1 ps ps1 ps2 ps3 ps4 ev o (Ok tt) f);
    ticks = f.steps.kept.ticks;
    clocked = f.steps.kept.told;
    small = f.steps.kept.small;
    unticked = λ off. no_ticks l o f.steps.kept.ticks off f.steps.kept.few;
    full = λ is. absurd cc;
    ends = λ w later st ticks. let n = final b b1 b2 a a1 a2 ac a3 x y z p q l l1 k k1 ps ps1 ps2 ps3 ps4 ev o (Ok tt) f w later st ticks in record {
      asked = n.asked;
      came = n.came;
      fine = n.fine;
      marks = n.marks;
      opens = n.opens;
      ticks = n.ticks;
      moments = n.moments;
      idle = n.idle;
      only = n.only;
      copies = record { copies = λ tells. n.copies; made = λ came tells. n.made };
      copied = λ tells. inr (record { contents = n.mark.stand; log = n.mark.has.log });
      late = λ some. left_stands s reopens holds b2 a3 _ clean n.mark;
      ends = went_ended a3 (Known b2 a3) (g.given z) v' w _ ev gap (record { stands = n.done; on = st.on; shut = n.shut; events = n.events; gaps = n.gaps ∙ ap (λ (gs : List (ℕ × ℕ)). w.gaps ++ gs) met; last = n.last });
    };
  }
    where
      first : Entry
      first = Event f.steps.hears.asks.paused f.steps.hears.asks.busy ev f.steps.hears.asks.bytes

      es : List Entry
      es = first ∷ f.finishes.entries

      v' : State
      v' = record { logged = l1; due = is_quiet ev; walk = k1; peers = ps4 }
