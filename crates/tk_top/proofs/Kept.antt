-- A database in the files of a space: what its opening leaves, and the run behind it.
use Rattle.std.proofs.Common.{◌≡◌, ◌⊎◌, ◌≢◌, inl, inr, ⊎_elim, ℕ, Bool, true, false, cond, List, [], ◌∷◌, ◌++◌, length, refl, sym, ap, subst, ◌∙◌, arith}
use Rattle.std.specs.Prelude.{Option, Some, None}
use Rattle.tc_base.specs.Files.{Files}
use Rattle.tc_base.specs.declared.kind.Rule.{Rule}
use Rattle.tc_io.specs.Copies.{Named}
use Rattle.tc_io.specs.declared.wire.Wire as wire
use Rattle.tc_io.specs.declared.wire.At.{At}
use Rattle.tc_io.specs.declared.wire.Ev.{Ev}
use Rattle.tc_io.specs.declared.wire.Entry.{Entry}
use Rattle.tc_io.specs.declared.wire.Entry.TheVariants.{Open, Dial, Event, Send, Close}
use Rattle.tc_space.specs.Moments.{LeavesOnly, Steady}
use Rattle.tc_space.specs.declared.space.Space as space
use Rattle.tc_model.specs.Contents.{Contents}
use Rattle.ty_ulog.specs.declared.record.Record.{Record}
use Rattle.ty_world.specs.Logs.{Settings, news, plain}
use Rattle.ty_world.specs.Rounds.{marks_in}
use Rattle.ty_world.specs.World.{World, Mark, added, happens, heard_by, copied_at, mark_behind, rounded, world_after}
use Rattle.ty_base.specs.declared.errors.AnyErr.{AnyErr}
use Rattle.ty_base.specs.declared.errors.AnyErr.TheVariants as any
use Rattle.ty_base.specs.Holding.{Stays}
use Rattle.ty_base.specs.Opening.{Breaks, IsOpened}
use Rattle.ty_ulog.specs.Log.{IsLog, records_in}
use Rattle.ty_rounds.specs.Kept.{HoldsMark, StandFor, Reopens, MovesTo, LeavesMarks, IsIn}
use Rattle.ty_rounds.specs.Logging.{LacksRoom}
use Rattle.ty_rounds.specs.Serving.{FillsIn, FillsPart}
use Rattle.ty_rounds.specs.Turns.{Told}
use Rattle.ty_rounds.proofs.Telling.{Adds-none}
use Rattle.tk_top.specs.declared.ends.End.{End}
use Rattle.tk_top.specs.declared.ends.End.TheVariants.{Done, Words, Refused, VolumeFault, Broken, NoMemory, Full, WireFault, TurnsSpent}
use Rattle.tk_top.specs.CopyRuns.{CopyRun, StandsAt}
use Rattle.tk_top.specs.Ends.{end_of}
use Rattle.tk_top.specs.Over.{Judged}
use Rattle.tk_top.specs.Runs.{FullRun}
use Rattle.tk_top.specs.Serving.{Begins, RunsOver}
use Rattle.tk_top.specs.Starts.{Start, answering, begun, with_log}
use Rattle.tk_top.specs.Staying.{IsStill}
use Rattle.tk_top.proofs.CopyLaws.{copies_none, copies_stay}
use Rattle.tk_top.proofs.Events.{had_none}
use Rattle.tk_top.proofs.Fresh.{Earlier, Fresh}
use Rattle.tk_top.proofs.Over.{not_played, unserved}
use Rattle.tk_top.proofs.Logs.{is_stays, with_logged}
use Rattle.tk_top.proofs.Running.{fills_wider}

some_files : (a b : Files) → Some a ≡ Some b → a ≡ b
some_files a b e = cc

-- ---- marks stay

kept_in : (b : Bool) (c d : Mark) (ms : List Mark) → IsIn c ms → IsIn c (cond b (d ∷ ms) ms)
kept_in true c d ms h = inr h
kept_in false c d ms h = h

happens_keeps : (e : Entry) (w : World) (c : Mark) → IsIn c w.marks → IsIn c (happens w e).marks
happens_keeps (Open at) w c h = h
happens_keeps (Dial host port answer) w c h = h
happens_keeps (Event paused busy ev bytes) w c h = let d = rounded w ev bytes in kept_in (marks_in d) c (mark_behind w d) w.marks h
happens_keeps (Send k bytes answer) w c h = h
happens_keeps (Close k) w c h = h

all_keep : (es : List Entry) (w : World) (c : Mark) → IsIn c w.marks → IsIn c (world_after es w).marks
all_keep [] w c h = h
all_keep (e ∷ es) w c h = all_keep es (happens w e) c (happens_keeps e w c h)

pub first_in : (st : Start) (es : List Entry) (first : Mark) → IsIn first (world_after es (begun st [] first)).marks
first_in st es first = all_keep es (begun st [] first) first (inl refl)

-- ---- opening

module _ {S : Type 0} (s : space.Ghosts S) (reopens : Files → Contents → Type 0) where
  pub steady_moves : (old mid : S) (m : Mark) → Steady s.moment s.files_at s.left s.kept old mid → MovesTo s reopens old mid m
  steady_moves old mid m st = record { leaves = record { later = st.leaves.later; each = λ t o le l. ⊎_elim (λ was. inl was) (λ is. inr (inl is)) (st.leaves.each t o le l) } }

  pub commit_moves : (old mid new : S) (m : Mark) → Steady s.moment s.files_at s.left s.kept old mid → LeavesOnly s.moment s.left mid new (λ o. (o ≡ s.kept mid) ⊎ (o ≡ Some (s.now mid))) → StandFor reopens (s.now mid) m → MovesTo s reopens old new m
  commit_moves old mid new m st cm stand = record {
    leaves = record {
      later = omega (arith, st.leaves.later, cm.later);
      each = λ t o le l. ⊎_elim
          (λ at_mid. ⊎_elim (λ was. inl was) (λ is. inr (inl is)) (st.leaves.each t o le at_mid))
          (λ p. inr (⊎_elim (λ is. inl (is ∙ st.same)) (λ is. inr (record { files = s.now mid; is = is; stand = stand })) p))
          (cm.each t o (omega (arith, le, st.leaves.later)) l);
    };
  }

module _ {S B : Type 0} (s : space.Ghosts S) (holds : B → Files → Contents → Type 0) (reopens opens : Files → Contents → Type 0) where
  pub opened_holds : (b : B) (old mid new : S) (m : Mark) → Begins s opens old m → Stays s 2 old mid → IsOpened holds reopens b (s.now mid) m.contents → ((f : ℕ) → s.now new f ≡ s.now mid f) → HoldsMark s holds reopens b new m
  opened_holds b old mid new m h log o same =
      let there : s.now mid ≡ s.now new = λ i f. sym (same f) i in
      record {
        has = record { held = (h.0, subst (λ (f : Files). holds b f m.contents) there o.holds); log = same 2 ∙ log.same h.0 ∙ h.1.log };
        stand = subst (λ (f : Files). reopens f m.contents) there o.stand;
      }

-- ---- the run behind an opening

pub moved : {reopens : Files → Contents → Type 0} {first : Mark} {o p : Option Files} → Reopens reopens p first → o ≡ p → Reopens reopens o first
moved k is = record { files = k.files; is = is ∙ k.is; stand = k.stand }

pub ended_not : (e : AnyErr) → (end_of e ≢ Done) × (end_of e ≢ TurnsSpent)
ended_not (any.Broken file rule) = (λ i. absurd cc, λ i. absurd cc)
ended_not any.Full = (λ i. absurd cc, λ i. absurd cc)
ended_not any.Fault = (λ i. absurd cc, λ i. absurd cc)
ended_not any.Memory = (λ i. absurd cc, λ i. absurd cc)

module _ {S : Type 0} (s : space.Ghosts S) (reopens : Files → Contents → Type 0) where
  pub marks_then : (s0 s1 s2 : S) (ms : List Mark) → LeavesMarks s reopens s0 s1 ms → LeavesMarks s reopens s1 s2 ms → LeavesMarks s reopens s0 s2 ms
  marks_then s0 s1 s2 ms one two = record {
    leaves = record {
      later = omega (arith, one.leaves.later, two.leaves.later);
      each = λ t o le l. ⊎_elim (λ mid. one.leaves.each t o le mid) (λ m. inr m) (two.leaves.each t o (omega (arith, le, one.leaves.later)) l);
    };
  }

module _ {S : Type 0} (s : space.Ghosts S) (reopens opens : Files → Contents → Type 0) (stand : (files : Files) (c : Contents) → opens files c → reopens files c) where
  pub kept_stands : (a : S) (first : Mark) → Fresh s a → Begins s opens a first → Reopens reopens (s.kept a) first
  kept_stands a first fresh h = record { files = s.now a; is = (fresh h.0).1; stand = record { contents = stand (s.now a) first.contents h.1.contents; log = h.1.log } }

  -- nothing was kept but what stands for the first mark
  pub still_first : (a b : S) (first : Mark) → Fresh s a → Earlier s b → Begins s opens a first → MovesTo s reopens a b first → (o : Option Files) → s.left b (s.moment b) o → Reopens reopens o first
  still_first a b first fresh earlier h moves o l =
      let k = kept_stands a first fresh h in
      ⊎_elim (λ was. moved k ((fresh h.0).0 o was)) (λ p. ⊎_elim (λ is. moved k is) (λ r. r) p) (moves.leaves.each (s.moment a) o (omega arith) (earlier (s.moment a) (s.moment b) o moves.leaves.later l))

  pub opening_logged : (logs : Bool) (s0 s1 : S) (first : Mark) (ms : List Mark) → IsIn first ms → (logs ≡ true → IsLog first.log (records_in first.log)) → Reopens reopens (s.kept s0) first → MovesTo s reopens s0 s1 first → LeavesMarks s (with_log logs reopens) s0 s1 ms
  opening_logged logs s0 s1 first ms held log k moves = record {
    leaves = record {
      later = moves.leaves.later;
      each = λ t o le l. ⊎_elim (λ was. inl was) (λ p. inr (record { mark = first; listed = held; reopen = with_logged reopens logs o first log (⊎_elim (λ is. moved k is) (λ r. r) p) })) (moves.leaves.each t o le l);
    };
  }

  -- with no update log
  pub opening_marks : (s0 s1 : S) (first : Mark) (ms : List Mark) → IsIn first ms → Reopens reopens (s.kept s0) first → MovesTo s reopens s0 s1 first → LeavesMarks s reopens s0 s1 ms
  opening_marks s0 s1 first ms held k moves = opening_logged false s0 s1 first ms held (λ on. absurd (let e : false ≡ true = on in cc)) k moves

-- a main file that was empty was made anew, and others stay
pub still_opened : (made : Files → Type 0) (old new : Files) → ((old 0 ≡ [] → ⊥) → (f : ℕ) → new f ≡ old f) → (old 0 ≡ [] → made new) → IsStill made old (Some new)
still_opened made old new same anew = which (old 0) refl
  where
    which : (main : List ℕ) → old 0 ≡ main → IsStill made old (Some new)
    which [] is = record { which = inr (is, new, refl, anew is) }
    which (x ∷ xs) is = let there : new ≡ old = λ i f. same (λ none. let e = sym none ∙ is in cc) f i in record { which = inl (ap (λ (f : Files). Some f) there) }

-- where it wasn't empty they are the files
pub still_same : (made : Files → Type 0) (old new : Files) → IsStill made old (Some new) → (old 0 ≡ [] → ⊥) → new ≡ old
still_same made old new still some = some_files new old (⊎_elim (λ is. is) (λ made. absurd (some made.0)) still.which)

pub still_then : (made : Files → Type 0) (old mid : Files) (o : Option Files) → IsStill made old (Some mid) → IsStill (λ files. ⊥) mid o → IsStill made old o
still_then made old mid o opened run = subst (λ (p : Option Files). IsStill made old p) (sym (⊎_elim (λ is. is) (λ none. absurd none.3) run.which)) opened

module _ {S W : Type 0} (s : space.Ghosts S) (g : wire.Ghosts W) (reopens opens : Files → Contents → Type 0) (made : Files → Type 0) (stand : (files : Files) (c : Contents) → opens files c → reopens files c) where
  -- it was refused
  unfoldable pub over_refused : (st : Start) (start : Mark → Type 0) (e : AnyErr) (turns : ℕ) (at : At) (s0 s1 : S) (x : W) → Fresh s s0 → Earlier s s1 → s.names s1 ≡ s.names s0 → ((m : Mark) → Begins s opens s0 m → MovesTo s reopens s0 s1 m) → ((m : Mark) → start m → Begins s opens s0 m) → ((m : Mark) → start m → st.is.logs ≡ true → IsLog m.log (records_in m.log)) → RunsOver s g st reopens made (end_of e) turns at s0 s1 x x start
  unfolding unserved
  over_refused st start e turns at s0 s1 x fresh earlier names moves begins logs = record {
    entries = [];
    told = Adds-none (g.transcript x);
    opened = inl refl;
    events = had_none (end_of e) turns (ended_not e).0 (ended_not e).1;
    ends = λ first h0. let h = begins first h0 in record {
      asked = tt;
      serves = unserved st (end_of e) turns at [] first [] refl (inr refl) (ended_not e).0 (ended_not e).1;
      exit = λ o l. inl (record { reopen = still_first s reopens opens stand s0 s1 first fresh earlier h (moves first h) o l; log = logs first h0 });
      moments = opening_logged s reopens opens stand st.is.logs s0 s1 first (first ∷ []) (inl refl) (logs first h0) (kept_stands s reopens opens stand s0 first fresh h) (moves first h);
      late = λ some. absurd cc;
      copies = λ label tells. subst (λ (n : Named). CopyRun reopens label (StandsAt (end_of e) (begun st [] first) [] label) (first ∷ []) None ((s.names s0).copies label) (n.copies label)) (sym names)
          (copies_stay reopens label (StandsAt (end_of e) (begun st [] first) [] label) (begun st [] first) ((s.names s0).copies label) ((s.names s0).copies label) (copies_none reopens label (begun st [] first) ((s.names s0).copies label) refl));
      idle = λ some. absurd (some refl);
    };
    played = λ ended. absurd (⊎_elim (ended_not e).0 (ended_not e).1 ended);
    unserved = λ none. names;
    plays = λ first h acts dials given p. not_played st.is turns (g.plays x) (end_of e) acts given (begun st [] first) (ended_not e).0 (ended_not e).1;
  }

  -- it wasn't
  unfoldable pub over_opened : (st : Start) (start : Mark → Type 0) (end : End) (turns : ℕ) (at : At) (s0 s1 s2 : S) (x y : W) → Fresh s s0 → s.names s1 ≡ s.names s0 → ((m : Mark) → Begins s opens s0 m → MovesTo s reopens s0 s1 m) → ((m : Mark) → Begins s opens s0 m → start m) → ((m : Mark) → start m → st.is.logs ≡ true → IsLog m.log (records_in m.log)) → (s.tells → IsStill made (s.now s0) (Some (s.now s1)))
      → RunsOver s g st reopens (λ files. ⊥) end turns at s1 s2 x y start → RunsOver s g st reopens made end turns at s0 s2 x y (Begins s opens s0)
  over_opened st start end turns at s0 s1 s2 x y fresh names moves begins logs still run = record {
    entries = run.entries;
    told = run.told;
    opened = run.opened;
    events = run.events;
    ends = λ first h.
        let k = kept_stands s reopens opens stand s0 first fresh h in
        let r = run.ends first (begins first h) in
        let v = world_after run.entries (begun st [] first) in
        record {
          asked = r.asked;
          serves = r.serves;
          exit = r.exit;
          moments = marks_then s (with_log st.is.logs reopens) s0 s1 s2 _ (opening_logged s reopens opens stand st.is.logs s0 s1 first _ (first_in st run.entries first) (logs first (begins first h)) k (moves first h)) r.moments;
          late = r.late;
          copies = λ label tells. subst (λ (n : Named). CopyRun reopens label (StandsAt end (world_after r.serves.last.earlier (begun st [] first)) r.serves.last.last label) v.marks (copied_at label v.copies) (n.copies label) ((s.names s2).copies label)) names (r.copies label tells);
          idle = λ some kept o l. still_then made (s.now s0) (s.now s1) o (still h.0) (r.idle some kept o l);
        };
    played = run.played;
    unserved = λ none. run.unserved none ∙ names;
    plays = λ first h acts dials given p. run.plays first (begins first h) acts dials given p;
  }

pub full_opened : (fills wide : Contents → Contents → Type 0) (lacks : ℕ → ℕ → Type 0) (is : Settings) (start begun' : Mark → Type 0) (ticks : List ℕ) (a b : Told) → ((m : Mark) → start m → begun' m) → ((m : Mark) → start m → (i j : Contents) → fills i j → wide i j) → FullRun fills lacks is begun' [] ticks a b → FullRun wide lacks is start [] ticks a b
full_opened fills wide lacks is start begun' ticks a b begins wider x = record {
  earlier = x.earlier;
  paused = x.paused;
  busy = x.busy;
  ev = x.ev;
  bytes = x.bytes;
  told = x.told;
  some = λ first h later. fills_wider fills wide lacks (world_after x.earlier (begun (answering is ticks later) [] first)) x.ev x.bytes (wider first h) (x.some first (begins first h) later);
}

-- where the update log has no room in one sense, it has none in another
pub full_lacks : (fills : Contents → Contents → Type 0) (lacks wide : ℕ → ℕ → Type 0) (is : Settings) (start : Mark → Type 0) (opens : List At) (ticks : List ℕ) (a b : Told) → ((at size : ℕ) → lacks at size → wide at size) → FullRun fills lacks is start opens ticks a b → FullRun fills wide is start opens ticks a b
full_lacks fills lacks wide is start opens ticks a b wider x = record {
  earlier = x.earlier;
  paused = x.paused;
  busy = x.busy;
  ev = x.ev;
  bytes = x.bytes;
  told = x.told;
  some = λ first h later. ⊎_elim
      (λ part. inl part)
      (λ lack. inr (record { front = lack.front; next = lack.next; behind = lack.behind; parts = lack.parts; full = ⊎_elim (λ late. inl late) (λ l. inr (wider _ _ l)) lack.full }))
      (x.some first h later);
}

-- with no update log nothing is added to one
no_news : (rs : List Record) (n : Record) (behind : List Record) → [] ≡ rs ++ n ∷ behind → ⊥
no_news [] n behind e = cc
no_news (r ∷ rs) n behind e = cc

pub part_alone : (fills : Contents → Contents → Type 0) (lacks : ℕ → ℕ → Type 0) (es : List Entry) (w0 : World) (ev : Ev) (bytes : List ℕ) → w0.is ≡ plain → FillsIn fills lacks (world_after es w0) ev bytes
    → let w = world_after es w0 in FillsPart w.is w.records fills w.contents w.walk (heard_by w ev bytes)
part_alone fills lacks es w0 ev bytes alone x =
    let w = world_after es w0 in
    let d = rounded w ev bytes in
    let none : added w d ≡ [] = ap (λ (is : Settings). news is w.records w.ticks d.round.made.updates d.looked.dealt_is.taken) (is_stays es w0 ∙ alone) in
    ⊎_elim (λ part. part) (λ (lack : LacksRoom lacks (length w.log) (added w d)). absurd (no_news lack.front lack.next lack.behind (sym none ∙ lack.parts))) x

pub full_plain : (fills : Contents → Contents → Type 0) (lacks : ℕ → ℕ → Type 0) (start begun' : Mark → Type 0) (opens : List At) (a b : Told) → ((m : Mark) → start m → begun' m) → FullRun fills lacks plain begun' opens [] a b → FullRun fills (λ at size. ⊥) plain start opens [] a b
full_plain fills lacks start begun' opens a b begins x = record {
  earlier = x.earlier;
  paused = x.paused;
  busy = x.busy;
  ev = x.ev;
  bytes = x.bytes;
  told = x.told;
  some = λ first h later. inl (part_alone fills lacks x.earlier (begun (answering plain [] later) opens first) x.ev x.bytes refl (x.some first (begins first h) later));
}

-- ---- ends

pub judged_err : (e : AnyErr) (stand : Type 0) (breaks : ℕ → Rule → Type 0) → Breaks e breaks → (e ≡ any.Full → stand) → Judged (end_of e) stand breaks
judged_err (any.Broken file rule) stand breaks b full = b
judged_err any.Full stand breaks b full = full refl
judged_err any.Fault stand breaks b full = tt
judged_err any.Memory stand breaks b full = tt

pub judged_as : (end : End) (P Q : Type 0) (R T : ℕ → Rule → Type 0) → (P → Q) → ((file : ℕ) (rule : Rule) → R file rule → T file rule) → Judged end P R → Judged end Q T
judged_as Done P Q R T f k h = f h
judged_as Words P Q R T f k h = h
judged_as Refused P Q R T f k h = h
judged_as VolumeFault P Q R T f k h = h
judged_as (Broken file rule) P Q R T f k h = k file rule h
judged_as NoMemory P Q R T f k h = h
judged_as Full P Q R T f k h = f h
judged_as WireFault P Q R T f k h = f h
judged_as TurnsSpent P Q R T f k h = f h

pub full_err : (e : AnyErr) → end_of e ≡ Full → e ≡ any.Full
full_err (any.Broken file rule) is = absurd cc
full_err any.Full is = refl
full_err any.Fault is = absurd cc
full_err any.Memory is = absurd cc

-- ---- a main file that is there

module _ {S : Type 0} (s : space.Ghosts S) where
  abbrev RestsAt : S → Option Files → Type 0
  RestsAt old o = (o ≡ s.kept old) ⊎ (o ≡ Some (s.now old))

  pub reads_rest : (old mid : S) → Steady s.moment s.files_at s.left s.kept old mid → LeavesOnly s.moment s.left old mid (RestsAt old)
  reads_rest old mid st = record { later = st.leaves.later; each = λ t o le l. ⊎_elim (λ was. inl was) (λ is. inr (inl is)) (st.leaves.each t o le l) }

  -- a commit of files that were only read
  pub commit_rests : (old mid new : S) → Steady s.moment s.files_at s.left s.kept old mid → ((g : ℕ) → s.now mid g ≡ s.now old g) → LeavesOnly s.moment s.left mid new (λ o. (o ≡ s.kept mid) ⊎ (o ≡ Some (s.now mid))) → LeavesOnly s.moment s.left old new (RestsAt old)
  commit_rests old mid new st same cm = record {
    later = omega (arith, st.leaves.later, cm.later);
    each = λ t o le l. ⊎_elim
        (λ was. ⊎_elim (λ w. inl w) (λ is. inr (inl is)) (st.leaves.each t o le was))
        (λ p. inr (⊎_elim (λ is. inl (is ∙ st.same)) (λ is. inr (is ∙ (λ i. Some (λ g. same g i)))) p))
        (cm.each t o (omega (arith, le, st.leaves.later)) l);
  }

  -- at the exit, of a space that had nothing to commit
  pub rests_left : (old new : S) → s.tells → Fresh s old → Earlier s new → LeavesOnly s.moment s.left old new (RestsAt old) → (o : Option Files) → s.left new (s.moment new) o → o ≡ Some (s.now old)
  rests_left old new t fresh earlier rests o l = ⊎_elim
      (λ was. (fresh t).0 o was ∙ (fresh t).1)
      (λ p. ⊎_elim (λ is. is ∙ (fresh t).1) (λ is. is) p)
      (rests.each (s.moment old) o (omega arith) (earlier (s.moment old) (s.moment new) o rests.later l))
