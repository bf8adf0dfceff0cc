-- A run that keeps an update log.
use Rattle.std.proofs.Common.{◌≡◌, ◌⊎◌, ◌≤◌, inl, inr, ⊎_elim, ℕ, Bool, true, false, List, [], ◌∷◌, ◌++◌, refl, sym, ap, subst, ◌∙◌, arith}
use Rattle.std.specs.Prelude.{Option, Some}
use Rattle.std.proofs.lemmas.List.{append-nil}
use Rattle.tc_base.specs.Files.{Files}
use Rattle.tc_base.specs.declared.kind.Kind.{Kind}
use Rattle.tc_base.specs.declared.kind.Rule.{Rule}
use Rattle.tc_io.specs.Images.{Images, now}
use Rattle.tc_io.specs.Told.{Adds}
use Rattle.tc_io.specs.Script.{Plays}
use Rattle.tc_io.specs.declared.sink.Sink as sink
use Rattle.tc_io.specs.declared.volume.Volume as volume
use Rattle.tc_io.specs.declared.wire.At.{At}
use Rattle.tc_io.specs.declared.wire.Entry.{Entry}
use Rattle.tc_io.specs.declared.wire.Entry.TheVariants.{Open}
use Rattle.tc_io.specs.declared.wire.Wire as wire
use Rattle.tc_space.specs.Frames.{Keeps, OnlyReads}
use Rattle.tc_space.specs.Moments.{LeavesOnly, steady_then}
use Rattle.tc_space.specs.declared.errors.OpenErr.{OpenErr}
use Rattle.tc_space.specs.declared.errors.OpenErr.TheVariants as open_err
use Rattle.tc_space.specs.declared.space.Space as space
use Rattle.ud_log.specs.Undo.{recovered}
use Rattle.tc_model.specs.Contents.{Contents}
use Rattle.ty_base.specs.Holding.{Frame, Laid, Layout, Stays}
use Rattle.ty_base.specs.Opening.{Breaks, OpensTo, any_of_open}
use Rattle.ty_base.specs.declared.errors.AnyErr.{AnyErr}
use Rattle.ty_base.specs.declared.errors.AnyErr.TheVariants as any
use Rattle.ty_ulog.specs.declared.record.Record.{Record}
use Rattle.ty_ulog.specs.declared.log.Ulog.{Ulog}
use Rattle.ty_ulog.specs.Holding.{Holds}
use Rattle.ty_ulog.specs.Log as ulog
use Rattle.ty_ulog.specs.Log.{AreUpdates, BreaksG, Follow, IsLog, log_bytes, records_in}
use Rattle.ty_ulog.proofs.Asking.{none_small}
use Rattle.ty_ulog.proofs.Rows.{in_once}
use Rattle.ty_world.specs.Fold.{AllMarksOf, Follows, IsFrontOf, IsMarkOf}
use Rattle.ty_world.specs.Logs.{Settings, is_replica}
use Rattle.ty_world.specs.World.{IsRested, Mark, World, world_after}
use Rattle.ty_world.proofs.Follows.{all_follow}
use Rattle.ty_rounds.specs.Books.{settings_of}
use Rattle.ty_rounds.specs.Kept.{HoldsMark, MovesTo, StandFor}
use Rattle.ty_rounds.specs.Turns.{MarksMore, Told}
use Rattle.ty_rounds.specs.declared.logging.Logged.{Logged}
use Rattle.ty_rounds.proofs.Telling.{Adds-none}
use Rattle.tk_top.specs.declared.ends.End.{End}
use Rattle.tk_top.specs.declared.ends.End.TheVariants.{Done, Words, Refused, VolumeFault, Broken, NoMemory, Full, WireFault, TurnsSpent}
use Rattle.tk_top.specs.Ends.{IsEnd, end_of}
use Rattle.tk_top.specs.GapLines.{TellsGaps, gap_lines}
use Rattle.tk_top.specs.Logging.{BeginsLogged, BreaksLogged, CameToWire, RunsLogged, RunsLoggedOn, StandsLogged, breaks_logged, opens_logged}
use Rattle.tk_top.specs.Naming.{EndsUnopened, OpensNamed}
use Rattle.tk_top.specs.Over.{BeginsAt, BreaksAt, CanStand, FullFiles, Judged, MainIsBare}
use Rattle.tk_top.specs.Runs.{Ends, FullRun, TurnedLogged}
use Rattle.tk_top.specs.Serving.{Begins, RunsOver}
use Rattle.tk_top.specs.Starts.{Start, StartsAs, answering, begun, start_of, when}
use Rattle.tk_top.specs.Staying.{BreaksOver, IsStill}
use Rattle.tk_top.specs.Stops.{IsEarly}
use Rattle.tk_top.proofs.Fresh.{Earlier, Fresh, still_left}
use Rattle.tk_top.proofs.Kept.{commit_moves, full_opened, over_opened, over_refused}
use Rattle.tk_top.proofs.Named.{bare_so, begins_so, early_of, not_ended, stands_so}
use Rattle.tk_top.proofs.Over.{over_served, over_unopened, start_less}
use Rattle.tk_top.proofs.Staying.{breaks_so, keeps_moments}
use Rattle.tk_top.proofs.Stopping.{files_run, unopened_for}
use Rattle.tk_top.proofs.Stops.{Closes, exit_left}

-- ---- a front of updates

front_updates : (xs ys : List Record) → AreUpdates (xs ++ ys) → AreUpdates xs
front_updates [] ys are = tt
front_updates (x ∷ xs) ys are = (are.0, front_updates xs ys are.1)

front_follows : (held : ℕ) (xs ys : List Record) → Follow held (xs ++ ys) → Follow held xs
front_follows held [] ys follow = tt
front_follows held (x ∷ xs) ys follow = (follow.0, follow.1, front_follows x.stamp xs ys follow.2)

-- a mark's records are those of its file
records_of : (m : List Record) (c : Contents) (first : Mark) → AreUpdates m → Follow 0 m → (mark : IsMarkOf m c first) → records_in first.log ≡ mark.log
records_of m c first updates follow mark = in_once first.log mark.log (record {
  row = record { parts = mark.file; updates = front_updates mark.log mark.front.rest (subst AreUpdates mark.front.front updates) };
  follow = front_follows 0 mark.log mark.front.rest (subst (Follow 0) mark.front.front follow);
})

-- a replica begins as it goes on
begins_following : (is : Settings) (ticks : List ℕ) (m : List Record) (c : Contents) (first : Mark) → is_replica is ≡ true → is.logs ≡ true → AreUpdates m → Follow 0 m → IsMarkOf m c first → Follows m c (begun (record { is = is; ticks = ticks }) [] first)
begins_following is ticks m c first replica logs updates follow mark =
    let same = records_of m c first updates follow mark in
    record {
      replica = replica;
      logs = logs;
      front = subst (IsFrontOf m c first.contents) (sym same) mark.front;
      file = mark.file ∙ ap log_bytes (sym same);
      marks = (mark, tt);
      right = tt;
    }

whenever : {P : Type 0} (b : Bool) → P → when b P
whenever true p = p
whenever false p = tt

-- where nothing came of the wire but its opening no gap was met
no_gaps : (st : Start) (later : List ℕ) (end : End) (turns : ℕ) (first : Mark) (es : List Entry) (opens : List At) → st.ticks ≡ later → IsLog first.log (records_in first.log) → begun st opens first ≡ world_after es (begun st [] first) → TurnedLogged st later end turns [] first es (world_after es (begun st [] first)) []
no_gaps st later end turns first es opens ticks log is = subst (λ (v : World). TurnedLogged st later end turns [] first es v []) is (record {
  last = record {
    earlier = es;
    last = [];
    parts = sym (append-nil es);
    rested = subst IsRested is (refl, refl);
    calls = inl refl;
    marks = subst (λ (w : World). MarksMore w (begun st opens first)) is (record { more = inl (refl, refl) });
    within = inr (refl, subst (λ (w : World). w.events ≤ turns) is (omega arith));
  };
  gaps_are = subst (λ (w : World). [] ≡ w.gaps) is refl;
  log = subst (λ (w : World). when st.is.logs (IsLog w.log w.records)) is (whenever st.is.logs log);
  ticks = λ out. ticks;
})

-- ---- which rule is broken

pub breaks_base : {S : Type 0} (s : space.Ghosts S) (opens : Files → Contents → Type 0) (breaks : Files → ℕ → Rule → Type 0) (e : AnyErr) (old new : S) → Breaks e (BreaksOver s breaks old new) → Breaks e (BreaksLogged s opens breaks old new)
breaks_base s opens breaks (any.Broken file rule) old new is = record { which = inl is }
breaks_base s opens breaks any.Full old new is = tt
breaks_base s opens breaks any.Fault old new is = tt
breaks_base s opens breaks any.Memory old new is = tt

-- beside a base that opened
pub breaks_beside : {S : Type 0} (s : space.Ghosts S) (opens : Files → Contents → Type 0) (breaks : Files → ℕ → Rule → Type 0) (e : OpenErr) (old mid new : S) → ulog.Breaks s.tells (s.now mid 2) e → (s.tells → s.now mid 2 ≡ s.now old 2) → (s.tells → (c : Contents) × opens (s.now old) c) → Keeps s old new → (s.tells → (s.now old 0 ≡ [] → ⊥) → OnlyReads s old new)
    → Breaks (any_of_open e) (BreaksLogged s opens breaks old new)
breaks_beside s opens breaks (open_err.Broken file rule) old mid new is same stands keeps reads =
    let b = is file rule refl in
    record { which = inr (record { file_is = b.0; broken = λ t. subst (λ (bytes : List ℕ). BreaksG bytes rule) (same t) (b.2 t); stands = stands; keeps = keeps; reads = reads }) }
breaks_beside s opens breaks open_err.Fault old mid new is same stands keeps reads = tt
breaks_beside s opens breaks open_err.Memory old mid new is same stands keeps reads = tt

-- an opening that reads alone meets no limit
pub open_not_full : (e : OpenErr) → any_of_open e ≡ any.Full → ⊥
open_not_full (open_err.Broken file rule) is = cc
open_not_full open_err.Fault is = cc
open_not_full open_err.Memory is = cc

pub open_fault : (e : OpenErr) → any_of_open e ≡ any.Fault → e ≡ open_err.Fault
open_fault (open_err.Broken file rule) is = absurd cc
open_fault open_err.Fault is = refl
open_fault open_err.Memory is = absurd cc

-- turns were made only over files that stand for contents
pub judged_turns : (end : End) (stand : Type 0) (breaks : ℕ → Rule → Type 0) → IsEnd end → stand → Judged end stand breaks
judged_turns Done stand breaks is h = h
judged_turns Words stand breaks is h = is
judged_turns Refused stand breaks is h = is
judged_turns VolumeFault stand breaks is h = tt
judged_turns (Broken file rule) stand breaks is h = absurd is
judged_turns NoMemory stand breaks is h = tt
judged_turns Full stand breaks is h = h
judged_turns WireFault stand breaks is h = h
judged_turns TurnsSpent stand breaks is h = h

-- of an end that isn't come to behind the wire
pub came_not : (e : AnyErr) → CameToWire (end_of e) → ⊥
came_not (any.Broken file rule) came = ⊎_elim (λ out. ⊎_elim (λ i. cc) (λ i. cc) out) (λ i. cc) came
came_not any.Full came = ⊎_elim (λ out. ⊎_elim (λ i. cc) (λ i. cc) out) (λ i. cc) came
came_not any.Fault came = ⊎_elim (λ out. ⊎_elim (λ i. cc) (λ i. cc) out) (λ i. cc) came
came_not any.Memory came = ⊎_elim (λ out. ⊎_elim (λ i. cc) (λ i. cc) out) (λ i. cc) came

-- ---- an opening

module _ {S : Type 0} (s : space.Ghosts S) where
  -- file 2 was the log of the records that were found in it
  pub log_there : {u : Ulog} (old mid : S) → Stays s 2 old mid → (s.tells → Holds u (s.now mid 2) (records_in (s.now mid 2))) → s.tells → IsLog (s.now old 2) (records_in (s.now old 2))
  log_there old mid stays holds t = subst (λ (file : List ℕ). IsLog file (records_in file)) (stays.same t) (holds t).log

  -- the base was opened, the log was read, and that was committed
  pub opened_moves : (reopens opens : Files → Contents → Type 0) (old mid read new : S) (m : Mark) → Begins s opens old m → Keeps s old mid → OnlyReads s mid read → Stays s 2 old mid → reopens (s.now mid) m.contents → LeavesOnly s.moment s.left read new (λ o. (o ≡ s.kept read) ⊎ (o ≡ Some (s.now read))) → MovesTo s reopens old new m
  opened_moves reopens opens old mid read new m h keeps reads stays stand committed = commit_moves s reopens old read new m (steady_then s.moment s.left s.files_at s.kept old mid read (keeps.steady h.0) (reads.keeps.steady h.0)) committed (record {
    contents = subst (λ (f : Files). reopens f m.contents) (λ i f. sym (reads.files h.0 f) i) stand;
    log = reads.files h.0 2 ∙ stays.same h.0 ∙ h.1.log;
  })

  -- files that are laid out so stand for the same
  pub begins_less : (kind : Kind) (reopens : Files → Contents → Type 0) (own : ℕ → Type 0) (layout : Files → Layout) (l : Frame) (a : S) (m : Mark) → Begins s (OpensTo kind (Laid own layout l reopens)) a m → Begins s (OpensTo kind reopens) a m
  begins_less kind reopens own layout l a m h = (h.0, record { contents = record { kind_is = h.1.contents.kind_is; stand = h.1.contents.stand.stand }; log = h.1.log })

-- ---- the lines of gaps

-- none was met
pub tells_none : {E : Type 0} (k : sink.Ghosts E) (gaps : List (ℕ × ℕ)) (p : E) → gaps ≡ [] → TellsGaps k gaps p p
tells_none k gaps p none = record { later = omega arith; lined = λ same few. subst (λ (gs : List (ℕ × ℕ)). Adds (k.taken p) (k.taken p) (gap_lines gs)) (sym none) (Adds-none (k.taken p)); silent = λ e. refl }

pub tells_still : {E : Type 0} (k : sink.Ghosts E) (p q : E) → q ≡ p → TellsGaps k [] p q
tells_still {E} k p q same = subst (λ (u : E). TellsGaps k [] p u) (sym same) (tells_none k [] p refl)

pub tells_same : {E : Type 0} (k : sink.Ghosts E) (gaps told : List (ℕ × ℕ)) (p q : E) → gaps ≡ told → TellsGaps k told p q → TellsGaps k gaps p q
tells_same k gaps told p q same tells = subst (λ (gs : List (ℕ × ℕ)). TellsGaps k gs p q) (sym same) tells

-- ---- over a space

module _ {S W : Type 0} (s : space.Ghosts S) (g : wire.Ghosts W) (reopens : Files → Contents → Type 0) (made : Files → Type 0) (kind : Kind) where
  abbrev stand : (files : Files) (c : Contents) → OpensTo kind reopens files c → reopens files c
  stand files c h = h.stand

  -- a run that met these gaps, where the clock answered so
  abbrev pub RunsWith : Settings → End → ℕ → At → S → S → W → W → Option (List ℕ) → Option (List ℕ) → List (ℕ × ℕ) → List ℕ → Type 0
  RunsWith is end turns at old new x y c d gaps ticks = (run : RunsLogged s g is reopens made kind end turns at old new x y c d) × (run.gaps ≡ gaps) × (run.ticks ≡ ticks)

  -- what the wire was asked for is its opening at most
  short_run : (is : Settings) (end : End) (turns : ℕ) (at : At) (old new : S) (x y : W) (c : Option (List ℕ)) (es : List Entry) → ((later : List ℕ) → (run : RunsOver s g (answering is [] later) reopens made end turns at old new x y (BeginsLogged s (OpensTo kind reopens) old)) × (run.entries ≡ es)) → (es ≡ []) ⊎ (es ≡ Open at ∷ [])
      → RunsWith is end turns at old new x y c c [] []
  short_run is end turns at old new x y c es runs short = (
    record {
      ticks = [];
      clocked = Adds-none c;
      small = none_small;
      runs = λ later. (runs later).0;
      gaps = [];
      unmet = λ none. refl;
      turned = λ first h later. none_met (runs later).0.entries later first h.1 ((runs later).1);
      follows = λ replica first h m d updates follow mark later always. subst (AllMarksOf m d) (sym (one_mark (runs later).0.entries later first ((runs later).1))) (mark, tt);
    },
    refl,
    refl,
  )
    where
      none_met : (fs : List Entry) (later : List ℕ) (first : Mark) → IsLog first.log (records_in first.log) → fs ≡ es → TurnedLogged (answering is [] later) later end turns [] first fs (world_after fs (begun (answering is [] later) [] first)) []
      none_met fs later first log same =
          let st = answering is [] later in
          subst (λ (l : List Entry). TurnedLogged st later end turns [] first l (world_after l (begun st [] first)) []) (sym same) (⊎_elim
          (λ none. subst (λ (l : List Entry). TurnedLogged st later end turns [] first l (world_after l (begun st [] first)) []) (sym none) (no_gaps st later end turns first [] [] refl log refl))
          (λ one. subst (λ (l : List Entry). TurnedLogged st later end turns [] first l (world_after l (begun st [] first)) []) (sym one) (no_gaps st later end turns first (Open at ∷ []) (at ∷ []) refl log refl)) short)

      one_mark : (fs : List Entry) (later : List ℕ) (first : Mark) → fs ≡ es → (world_after fs (begun (answering is [] later) [] first)).marks ≡ first ∷ []
      one_mark fs later first same = ap (λ (l : List Entry). (world_after l (begun (answering is [] later) [] first)).marks) same ∙ ⊎_elim (λ none. ap (λ (l : List Entry). (world_after l (begun (answering is [] later) [] first)).marks) none) (λ one. ap (λ (l : List Entry). (world_after l (begun (answering is [] later) [] first)).marks) one) short

  -- they weren't opened
  pub logged_refused : (is : Settings) (e : AnyErr) (turns : ℕ) (at : At) (s0 s1 : S) (x : W) (c : Option (List ℕ)) → Fresh s s0 → Earlier s s1 → s.names s1 ≡ s.names s0 → ((m : Mark) → Begins s (OpensTo kind reopens) s0 m → MovesTo s reopens s0 s1 m) → RunsWith is (end_of e) turns at s0 s1 x x c c [] []
  unfolding over_refused
  logged_refused is e turns at s0 s1 x c fresh earlier names moves =
      short_run is (end_of e) turns at s0 s1 x x c [] (λ later. (over_refused s g reopens (OpensTo kind reopens) made stand (answering is [] later) (BeginsLogged s (OpensTo kind reopens) s0) e turns at s0 s1 x fresh earlier names moves (λ m h. h.0) (λ m h on. h.1), refl)) (inl refl)

  module _ {B : Type 0} (holds : B → Files → Contents → Type 0) (is : Settings) (b : B) (l : Logged) (s0 s1 : S) (settings : settings_of (Some l) ≡ is) (marks : (m : Mark) → Begins s (OpensTo kind reopens) s0 m → HoldsMark s holds reopens b s1 m × StartsAs (Some l) m) (still : s.tells → IsStill made (s.now s0) (Some (s.now s1))) (fresh : Fresh s s0) (calm : Fresh s s1) (names : s.names s1 ≡ s.names s0) (moves : (m : Mark) → Begins s (OpensTo kind reopens) s0 m → MovesTo s reopens s0 s1 m) where
    -- the wire wasn't
    pub logged_unopened : (turns : ℕ) (at : At) (x y : W) (c : Option (List ℕ)) → Adds (g.transcript x) (g.transcript y) [] ⊎ Adds (g.transcript x) (g.transcript y) (Open at ∷ []) → RunsWith is WireFault turns at s0 s1 x y c c [] []
    unfolding start_less over_opened over_unopened
    logged_unopened turns at x y c (inl told) =
        short_run is WireFault turns at s0 s1 x y c [] (λ later. (
          start_less s g (answering is [] later) reopens made WireFault turns at s0 s1 x y (Begins s (OpensTo kind reopens) s0) (BeginsLogged s (OpensTo kind reopens) s0) (λ m h. h.0)
              (over_opened s g reopens (OpensTo kind reopens) made stand (answering is [] later) (λ m. HoldsMark s holds reopens b s1 m × StartsAs (Some l) m) WireFault turns at s0 s1 s1 x y fresh names moves marks (λ m h on. h.1.holds.log) still
              (over_unopened s g holds reopens (answering is [] later) (λ m. HoldsMark s holds reopens b s1 m × StartsAs (Some l) m) b turns at s1 x y calm (λ m h. h.0) (λ m h on. h.1.holds.log) (inl told))),
          refl,
        )) (inl refl)
    logged_unopened turns at x y c (inr told) =
        short_run is WireFault turns at s0 s1 x y c (Open at ∷ []) (λ later. (
          start_less s g (answering is [] later) reopens made WireFault turns at s0 s1 x y (Begins s (OpensTo kind reopens) s0) (BeginsLogged s (OpensTo kind reopens) s0) (λ m h. h.0)
              (over_opened s g reopens (OpensTo kind reopens) made stand (answering is [] later) (λ m. HoldsMark s holds reopens b s1 m × StartsAs (Some l) m) WireFault turns at s0 s1 s1 x y fresh names moves marks (λ m h on. h.1.holds.log) still
              (over_unopened s g holds reopens (answering is [] later) (λ m. HoldsMark s holds reopens b s1 m × StartsAs (Some l) m) b turns at s1 x y calm (λ m h. h.0) (λ m h on. h.1.holds.log) (inr told))),
          refl,
        )) (inr refl)

    -- and turns came behind its opening
    pub logged_served : {E : Type 0} (k : sink.Ghosts E) (end : End) (turns : ℕ) (at : At) (s2 : S) (x y z : W) (c d : Option (List ℕ)) (p q : E) → Earlier s s2 → Adds (g.transcript x) (g.transcript y) (Open at ∷ []) → Plays (g.plays x) (g.plays y) (Open at ∷ []) → (ends : Ends s g k holds reopens end turns (Some l) b s1 s2 y z c d p q) → RunsWith is end turns at s0 s2 x z c d ends.gaps ends.ticks
    unfolding start_less over_opened over_served
    logged_served k end turns at s2 x y z c d p q earlier told opening ends = subst (λ (set : Settings). RunsWith set end turns at s0 s2 x z c d ends.gaps ends.ticks) settings (
      record {
        ticks = ends.ticks;
        clocked = ends.clocked;
        small = ends.small;
        runs = λ later. start_less s g (start_of (Some l) ends.ticks later) reopens made end turns at s0 s2 x z (Begins s (OpensTo kind reopens) s0) (BeginsLogged s (OpensTo kind reopens) s0) (λ m h. h.0)
            (over_opened s g reopens (OpensTo kind reopens) made stand (start_of (Some l) ends.ticks later) (λ m. HoldsMark s holds reopens b s1 m × StartsAs (Some l) m) end turns at s0 s1 s2 x z fresh names moves marks (λ m h on. h.1.holds.log) still
            (over_served s g holds reopens k (Some l) b end turns at s1 s2 x y z c d p q calm earlier told opening ends later));
        gaps = ends.gaps;
        unmet = ends.none_met;
        turned = λ first h later. let m = marks first h.0 in let e = ends.ends first m.0 m.1 later (at ∷ []) in
            let final = e.last in
            record { last = record { earlier = Open at ∷ final.earlier; last = final.last; parts = ap (λ (es : List Entry). Open at ∷ es) final.parts; rested = final.rested; calls = final.calls; marks = final.marks; within = final.within }; gaps_are = e.gaps_are; log = e.kept_log; ticks = e.ticks };
        follows = λ replica first h m d updates follow mark later always.
            let start = marks first h.0 in
            let came = (ends.ends first start.0 start.1 later (at ∷ [])).came in
            (all_follow m d (Open at ∷ ends.entries) (begun (start_of (Some l) ends.ticks later) [] first) follow (tt, came) always (begins_following (settings_of (Some l)) (ends.ticks ++ later) m d first replica refl updates follow mark)).marks;
      },
      refl,
      refl,
    )

-- ---- over a volume

-- it is that of a mark
log_told : {opens : Files → Contents → Type 0} {files : Files} (m : Mark) → StandFor (opens_logged opens) files m → IsLog m.log (records_in m.log)
log_told m h = subst (λ (bytes : List ℕ). IsLog bytes (records_in bytes)) h.log h.contents.1

-- both begin so
begins_both : {S : Type 0} (s : space.Ghosts S) (opens : Files → Contents → Type 0) (a : S) (m : Mark) → Begins s (opens_logged opens) a m → BeginsLogged s opens a m
begins_both s opens a m h = ((h.0, record { contents = h.1.contents.0; log = h.1.log }), log_told m h.1)

-- a run that met these gaps, where the clock answered so
abbrev pub RunsWithOn : {V W : Type 0} → volume.Ghosts V → wire.Ghosts W → Settings → (Files → Contents → Type 0) → (Files → Type 0) → Kind → End → ℕ → At → V → V → W → W → Option (List ℕ) → Option (List ℕ) → List (ℕ × ℕ) → List ℕ → Type 0
RunsWithOn v g is reopens made kind end turns at old new x y c d gaps ticks = (run : RunsLoggedOn v g is reopens made kind end turns at old new x y c d) × (run.gaps ≡ gaps) × (run.ticks ≡ ticks)

module _ {V W : Type 0} {v : volume.Ghosts V} (g : wire.Ghosts W) (is : Settings) (reopens : Files → Contents → Type 0) (made : Files → Type 0) (kind : Kind) where
  -- no space was opened
  pub logged_unnamed : {name : List ℕ} (end : End) (turns : ℕ) (at : At) {old new : V} (x : W) (c : Option (List ℕ)) → EndsUnopened v name end old new → RunsWithOn v g is reopens made kind end turns at old new x x c c [] []
  unfolding unopened_for
  logged_unnamed end turns at x c u = (
    record {
      ticks = [];
      clocked = Adds-none c;
      small = none_small;
      runs = λ later. unopened_for g (answering is [] later) (opens_logged (OpensTo kind reopens)) reopens made (λ files d h. h.0.stand) end turns at x (λ first h on. log_told first h.1.stand) u;
      gaps = [];
      unmet = λ none. refl;
      turned = λ first h later. no_gaps (answering is [] later) later end turns first [] [] refl (log_told first h.1.stand) refl;
      follows = λ replica first h m d updates follow mark later always. (mark, tt);
    },
    refl,
    refl,
  )

  -- one was, and the run went on over it
  pub logged_on : {S : Type 0} {s : space.Ghosts S} {name : List ℕ} {most : ℕ} {vol : V} {a : S} (o : OpensNamed s v name most vol a) (end : End) (turns : ℕ) (at : At) {t : S} {w : V} (x y : W) (c d : Option (List ℕ)) → Closes s v t w → (run : RunsLogged s g is reopens made kind end turns at a t x y c d) → RunsWithOn v g is reopens made kind end turns at vol w x y c d run.gaps run.ticks
  unfolding files_run start_less
  logged_on {S} {s} {name} {most} {vol} {a} o end turns at {t} {w} x y c d closed run = (
    record {
      ticks = run.ticks;
      clocked = run.clocked;
      small = run.small;
      runs = λ later. files_run o (opens_logged (OpensTo kind reopens)) g (answering is run.ticks later) reopens closed
          (start_less s g (answering is run.ticks later) reopens made end turns at a t x y (BeginsLogged s (OpensTo kind reopens) a) (Begins s (opens_logged (OpensTo kind reopens)) a) (begins_both s (OpensTo kind reopens) a) (run.runs later));
      gaps = run.gaps;
      unmet = run.unmet;
      turned = λ first h later. run.turned first (begins first h) later;
      follows = λ replica first h m b updates follow mark later always. run.follows replica first (begins first h) m b updates follow mark later always;
    },
    refl,
    refl,
  )
    where
      begins : (first : Mark) → BeginsAt v.tells (opens_logged (OpensTo kind reopens)) (v.calls vol) first → BeginsLogged s (OpensTo kind reopens) a first
      begins first h = begins_both s (OpensTo kind reopens) a first (begins_so o (opens_logged (OpensTo kind reopens)) first h)

module _ {S V : Type 0} {s : space.Ghosts S} {v : volume.Ghosts V} {name : List ℕ} {most : ℕ} {vol : V} {a : S} (o : OpensNamed s v name most vol a) (opens : Files → Contents → Type 0) where
  -- a limit was reached
  pub full_logged_so : {lacks : Type 0} (fills : Contents → Contents → Type 0) (wants : ℕ → ℕ → Type 0) (is : Settings) (ticks : List ℕ) (p q : Told) → FullFiles s.tells (s.now a 0 ≡ []) lacks (FullRun fills wants is (BeginsLogged s opens a) [] ticks p q × StandsLogged s opens a)
      → FullFiles v.tells (MainIsBare (recovered (now (v.calls vol)))) lacks (FullRun fills wants is (BeginsAt v.tells (opens_logged opens) (v.calls vol)) [] ticks p q × CanStand v (opens_logged opens) vol)
  full_logged_so fills wants is ticks p q x = record { which = ⊎_elim (λ y. inl (bare_so o opens y)) (λ y. inr (full_opened fills fills wants is (BeginsAt v.tells (opens_logged opens) (v.calls vol)) (BeginsLogged s opens a) ticks p q (λ m h. begins_both s opens a m (begins_so o (opens_logged opens) m h)) (λ m h i j full. full) y.0, stands_so o (opens_logged opens) y.1)) x.which }

  -- a rule is broken: of the base, or of its update log, and then nothing is kept
  pub breaks_logged_so : {t : S} {w : V} (closed : Closes s v t w) → ((x : S) → s.sound x → s.touched x ≡ false → Fresh s x) → Earlier s t → (v.tells → Images (v.calls vol) (now (v.calls vol))) → (breaks : Files → ℕ → Rule → Type 0) (file : ℕ) (rule : Rule) → BreaksLogged s opens breaks a t file rule → v.tells → BreaksAt (breaks_logged opens breaks) (v.calls vol) (v.calls w) file rule
  breaks_logged_so {t} {w} closed laws earlier image breaks file rule broken told = ⊎_elim
      (λ base. let at = breaks_so o closed laws image breaks file rule base told in record { which = ⊎_elim (λ log. inl log) (λ x. inr (x.0, x.1, inl x.2)) at.which; stays = at.stays })
      (λ log. let b = o.over told in record {
        which = inr (s.now a, b.files, inr (log.file_is, log.broken b.tells, log.stands b.tells));
        stays = record {
          stay = λ settled files is. record {
            exit = λ ims are. still_left s a t (recovered ims) (laws a o.sound o.untouched) earlier b.tells (log.keeps.steady b.tells) (exit_left closed ims are) ∙ sym b.files ∙ is;
            moments = keeps_moments b closed (laws a o.sound o.untouched) log.keeps (image told) settled;
          };
        };
      })
      broken.which

-- a run that never came to a space didn't come to the wire
pub unopened_came : {V : Type 0} {v : volume.Ghosts V} {name : List ℕ} {end : End} {old new : V} → EndsUnopened v name end old new → CameToWire end → ⊥
unopened_came u came = ⊎_elim (λ out. ⊎_elim (not_ended u).0 (not_ended u).1 out) (λ is. subst IsEarly is (early_of u)) came

-- nor reached a limit
pub unopened_full : {V : Type 0} {v : volume.Ghosts V} {name : List ℕ} {end : End} {old new : V} → EndsUnopened v name end old new → end ≡ Full → ⊥
unopened_full u is = subst IsEarly is (early_of u)
