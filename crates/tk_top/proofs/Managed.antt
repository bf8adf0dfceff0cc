-- A task over a space, and over its volume.
use Rattle.std.proofs.Common.{◌≡◌, ◌≢◌, ◌⊎◌, inl, inr, ⊎_elim, ℕ, zero, suc, Bool, true, false, List, [], map, refl, sym, ap, subst, ◌∙◌, arith}
use Rattle.std.specs.Prelude.{Option, Some, None, Result, Ok, Err, if◌then◌else◌}
use Rattle.tc_base.specs.Files.{Files}
use Rattle.tc_base.specs.declared.kind.Form.{Form}
use Rattle.tc_base.specs.declared.request.Request.{Request}
use Rattle.tc_base.specs.declared.request.Request.TheVariants as request
use Rattle.tc_io.specs.Images.{now}
use Rattle.tc_io.specs.declared.sink.Sink as sink
use Rattle.tc_io.specs.declared.volume.Volume as volume
use Rattle.tc_space.specs.Frames.{Keeps}
use Rattle.tc_space.specs.Moments.{LeavesOnly}
use Rattle.tc_space.specs.declared.space.Space as space
use Rattle.ud_log.specs.Undo.{recovered}
use Rattle.tc_model.specs.Apply.{Effect, Step, apply, effect, fits, refused, took}
use Rattle.tc_model.specs.Contents.{Contents}
use Rattle.ty_world.specs.World.{Mark}
use Rattle.ty_rounds.specs.Kept.{AtMark, HoldsMark, IsIn, MovesTo, Reopens}
use Rattle.ty_rounds.proofs.Telling.{Adds-none}
use Rattle.ty_base.specs.declared.errors.AnyErr.{AnyErr}
use Rattle.ty_base.specs.declared.errors.AnyErr.TheVariants as any
use Rattle.ty_base.specs.Opening.{OpensTo}
use Rattle.tc_base.specs.declared.kind.Kind.{Kind}
use Rattle.tc_base.specs.declared.kind.Rule.{Rule}
use Rattle.tk_words.specs.declared.order.PutWord.{PutWord}
use Rattle.tk_words.specs.declared.order.PutWord.TheVariants.{Over, Keep, Cat, Dup}
use Rattle.tk_mgr.specs.Managing.{IsThrough, Manages, PacksTask, marks_of, with_contents, writes_files, packing}
use Rattle.tk_mgr.specs.Tasks.{Prints, after, find_request, hundreds, index_request, maximum_of, ok_of, out_request, put_request}
use Rattle.tk_mgr.specs.declared.errors.MgrErr.{MgrErr}
use Rattle.tk_mgr.specs.declared.errors.MgrErr.TheVariants as mgr
use Rattle.tk_mgr.specs.declared.task.Task.{Task}
use Rattle.tk_mgr.specs.declared.task.Task.TheVariants.{Put, Out, Get, List as Lists, Optimize, Inform, SetIndex, Search, SearchOut, Drill}
use Rattle.tk_top.specs.declared.ends.End.{End}
use Rattle.tk_top.specs.declared.ends.End.TheVariants.{Done, Words, Refused, VolumeFault, Broken, NoMemory, Full, WireFault, TurnsSpent}
use Rattle.tk_top.specs.Ends.{end_of}
use Rattle.tk_top.specs.Naming.{EndsUnopened, OpensNamed}
use Rattle.tk_top.specs.Over.{BeginsAt, MainIsBare}
use Rattle.tk_top.specs.Serving.{Begins}
use Rattle.tk_top.specs.Staying.{IsSilent}
use Rattle.tk_top.specs.Stops.{IsEarly, StopsOver}
use Rattle.tk_top.specs.Tasks.{ExitsTask, FilesManaged, FullTask, IsCarried, IsMisplaced, JudgedTask, ManagesOver, ReasonOver, RefusedAt, TaskOn, TaskRun, end_of_task, wants_empty}
use Rattle.tk_top.proofs.Fresh.{Earlier, Fresh, still_left}
use Rattle.tk_top.proofs.Kept.{kept_stands, marks_then, moved, opening_marks, rests_left, still_first}
use Rattle.tk_top.proofs.Named.{bare_so, begins_so, early_of, of_kind, opened_whole, same_files, unopened_broken}
use Rattle.tk_top.proofs.Stops.{Closes, exit_left, stops_run, stops_unopened}

-- ---- ends

pub done_is : (r : Result Bool MgrErr) → end_of_task r ≡ Done → r ≡ Ok true
done_is (Ok true) is = refl
done_is (Ok false) is = absurd cc
done_is (Err mgr.Full) is = absurd cc
done_is (Err mgr.Fault) is = absurd cc
done_is (Err mgr.Sink) is = absurd cc
done_is (Err mgr.Memory) is = absurd cc

pub refused_is : (r : Result Bool MgrErr) → end_of_task r ≡ Refused → r ≡ Ok false
refused_is (Ok true) is = absurd cc
refused_is (Ok false) is = refl
refused_is (Err mgr.Full) is = absurd cc
refused_is (Err mgr.Fault) is = absurd cc
refused_is (Err mgr.Sink) is = absurd cc
refused_is (Err mgr.Memory) is = absurd cc

silent_is : (r : Result Bool MgrErr) → IsSilent (end_of_task r) → r ≡ Ok false
silent_is (Ok true) is = absurd is
silent_is (Ok false) is = refl
silent_is (Err mgr.Full) is = absurd is
silent_is (Err mgr.Fault) is = absurd is
silent_is (Err mgr.Sink) is = absurd is
silent_is (Err mgr.Memory) is = absurd is

carried_is : (r : Result Bool MgrErr) → IsCarried (end_of_task r) → IsThrough r
carried_is (Ok true) is = tt
carried_is (Ok false) is = absurd is
carried_is (Err mgr.Full) is = absurd is
carried_is (Err mgr.Fault) is = absurd is
carried_is (Err mgr.Sink) is = tt
carried_is (Err mgr.Memory) is = absurd is

-- an end before the task was begun
pub record IsUnbegun (end : End) : Type 0 where
  pub not_done : end ≢ Done
  pub not_refused : end ≢ Refused
  pub not_carried : IsCarried end → ⊥

pub unbegun_early : (end : End) → IsEarly end → IsUnbegun end
unbegun_early end soon = record { not_done = λ is. subst IsEarly is soon; not_refused = λ is. subst IsEarly is soon; not_carried = λ c. which end soon c }
  where
    which : (e : End) → IsEarly e → IsCarried e → ⊥
    which Done early c = early
    which Words early c = early
    which Refused early c = early
    which VolumeFault early c = c
    which (Broken file rule) early c = c
    which NoMemory early c = c
    which Full early c = early
    which WireFault early c = early
    which TurnsSpent early c = early

pub unbegun_of : (e : AnyErr) → IsUnbegun (end_of e)
unbegun_of (any.Broken file rule) = record { not_done = λ is. absurd cc; not_refused = λ is. absurd cc; not_carried = λ c. c }
unbegun_of any.Full = record { not_done = λ is. absurd cc; not_refused = λ is. absurd cc; not_carried = λ c. c }
unbegun_of any.Fault = record { not_done = λ is. absurd cc; not_refused = λ is. absurd cc; not_carried = λ c. c }
unbegun_of any.Memory = record { not_done = λ is. absurd cc; not_refused = λ is. absurd cc; not_carried = λ c. c }

-- ---- a request that fails changes nothing

failed_step : (r : Request) (c : Contents) (b : Bool) (step : Step) → step.ok ≡ true → (if b then step else refused r c None).ok ≡ false → (if b then step else refused r c None).contents ≡ c
failed_step r c true step right failed = absurd (let both = sym right ∙ failed in cc)
failed_step r c false step right failed = refl

failed_took : (r : Request) (e : Effect) (c : Contents) → (took r e c None).ok ≡ false → (took r e c None).contents ≡ c
failed_took r None c failed = refl
failed_took r (Some e) c failed = failed_step r c (fits e.1) _ refl failed

failed_put : (word : PutWord) (key value : List ℕ) (c : Contents) → (apply false (put_request word key value) c None).ok ≡ false → (apply false (put_request word key value) c None).contents ≡ c
unfolding apply
failed_put Over key value c failed = failed_took (request.Put key value) (effect (request.Put key value) c) c failed
failed_put Keep key value c failed = failed_took (request.PutKeep key value) (effect (request.PutKeep key value) c) c failed
failed_put Cat key value c failed = failed_took (request.PutCat key value) (effect (request.PutCat key value) c) c failed
failed_put Dup key value c failed = let r = put_request Dup key value in failed_took r (effect r c) c failed

failed_same : (task : Task) (c : Contents) → ok_of task c ≡ false → after task c ≡ c
unfolding apply
failed_same (Put word key value) c failed = failed_put word _ _ c failed
failed_same (Out key) c failed = failed_took (request.Out key) (effect (request.Out key) c) c failed
failed_same (Get key) c failed = failed_took (request.Get key) (effect (request.Get key) c) c failed
failed_same (Lists maximum values) c failed = let r = request.FwmKeys [] (maximum_of maximum) in failed_took r (effect r c) c failed
failed_same (Optimize large) c failed = absurd cc
failed_same Inform c failed = absurd cc
failed_same (SetIndex column code) c failed = let r = index_request column code in failed_took r (effect r c) c failed
failed_same (Search wanted values) c failed = let r = find_request wanted in failed_took r (effect r c) c failed
failed_same (SearchOut wanted) c failed = let r = out_request wanted in failed_took r (effect r c) c failed
failed_same (Drill seed n) c failed = absurd cc

-- a task that is for an empty main file may write
pub placed_writes : (task : Task) (files : Files) → (IsMisplaced task files → ⊥) → files 0 ≡ [] → writes_files task ≡ true
placed_writes (Put word key value) files placed empty = refl
placed_writes (Out key) files placed empty = refl
placed_writes (Get key) files placed empty = absurd (placed empty)
placed_writes (Lists maximum values) files placed empty = absurd (placed empty)
placed_writes (Optimize large) files placed empty = refl
placed_writes Inform files placed empty = absurd (placed empty)
placed_writes (SetIndex column code) files placed empty = refl
placed_writes (Search wanted values) files placed empty = absurd (placed empty)
placed_writes (SearchOut wanted) files placed empty = refl
placed_writes (Drill seed n) files placed empty = refl

-- nor is one that only reads for an empty one
pub reads_there : (task : Task) → writes_files task ≡ false → wants_empty task ≡ false
reads_there (Put word key value) reads = refl
reads_there (Out key) reads = refl
reads_there (Get key) reads = refl
reads_there (Lists maximum values) reads = refl
reads_there (Optimize large) reads = refl
reads_there Inform reads = refl
reads_there (SetIndex column code) reads = refl
reads_there (Search wanted values) reads = refl
reads_there (SearchOut wanted) reads = refl
reads_there (Drill seed n) reads = absurd cc

-- nor is one that packs files
pub packs_there : (task : Task) (f : Form) → packing task ≡ Some f → wants_empty task ≡ false
packs_there (Put word key value) f packs = refl
packs_there (Out key) f packs = refl
packs_there (Get key) f packs = refl
packs_there (Lists maximum values) f packs = refl
packs_there (Optimize large) f packs = refl
packs_there Inform f packs = refl
packs_there (SetIndex column code) f packs = refl
packs_there (Search wanted values) f packs = refl
packs_there (SearchOut wanted) f packs = refl
packs_there (Drill seed n) f packs = absurd cc

-- ---- marks

hundreds_have : (seed k : ℕ) (m : Mark) → IsIn m (map (with_contents m) (hundreds seed k m.contents))
hundreds_have seed zero m = inl refl
hundreds_have seed (suc k) m = inr (hundreds_have seed k m)

pub first_marked : (task : Task) (m : Mark) → IsIn m (marks_of task m)
first_marked (Put word key value) m = inr (inl refl)
first_marked (Out key) m = inr (inl refl)
first_marked (Get key) m = inr (inl refl)
first_marked (Lists maximum values) m = inr (inl refl)
first_marked (Optimize large) m = inr (inl refl)
first_marked Inform m = inr (inl refl)
first_marked (SetIndex column code) m = inr (inl refl)
first_marked (Search wanted values) m = inr (inl refl)
first_marked (SearchOut wanted) m = inr (inl refl)
first_marked (Drill seed n) m = inr (hundreds_have seed _ m)

-- ---- what is printed

module _ (lines : Files → List ℕ → Type 0) where
  -- only an inspection speaks of files
  prints_same : (task : Task) (f g : Files) (c : Contents) (text : List ℕ) → (wants_empty task ≡ false → f ≡ g) → Prints lines task f c text → Prints lines task g c text
  prints_same (Put word key value) f g c text same prints = prints
  prints_same (Out key) f g c text same prints = prints
  prints_same (Get key) f g c text same prints = prints
  prints_same (Lists maximum values) f g c text same prints = prints
  prints_same (Optimize large) f g c text same prints = prints
  prints_same Inform f g c text same prints = subst (λ (h : Files). Prints lines Inform h c text) (same refl) prints
  prints_same (SetIndex column code) f g c text same prints = prints
  prints_same (Search wanted values) f g c text same prints = prints
  prints_same (SearchOut wanted) f g c text same prints = prints
  prints_same (Drill seed n) f g c text same prints = prints

  on_unbegun : (task : Task) (end : End) (files : Files) (first : Mark) → IsUnbegun end → TaskOn lines task end files [] first
  on_unbegun task end files first un = record {
    placed = λ is. absurd (un.not_done is);
    ok = λ is. absurd (un.not_done is);
    printed = λ is. absurd (un.not_done is);
    refused = λ is. absurd (un.not_refused is);
    front = inl refl;
  }

  on_misplaced : (task : Task) (files : Files) (first : Mark) → IsMisplaced task files → TaskOn lines task Refused files [] first
  on_misplaced task files first not = record { placed = λ is. absurd cc; ok = λ is. absurd cc; printed = λ is. absurd cc; refused = λ is. inl not; front = inl refl }

module _ (reopens : Files → Contents → Type 0) (packed : Form → Files → Type 0) where
  at_first : (task : Task) (first : Mark) (o : Option Files) → Reopens reopens o first → AtMark reopens o (marks_of task first)
  at_first task first o r = record { mark = first; listed = first_marked task first; reopen = r }

  exits_unbegun : (task : Task) (end : End) (first : Mark) (o : Option Files) → IsUnbegun end → Reopens reopens o first → ExitsTask reopens packed task end [] first o
  exits_unbegun task end first o un r = record { at = at_first task first o r; last = λ more. absurd (⊎_elim (λ c. un.not_carried c) (λ some. some refl) more); stay = λ is. r; packs = λ f pack done. absurd (un.not_done done) }

  exits_misplaced : (task : Task) (first : Mark) (o : Option Files) → Reopens reopens o first → ExitsTask reopens packed task Refused [] first o
  exits_misplaced task first o r = record { at = at_first task first o r; last = λ more. absurd (⊎_elim (λ c. c) (λ some. some refl) more); stay = λ is. r; packs = λ f pack done. absurd cc }

-- ---- over a space

module _ {S O : Type 0} (s : space.Ghosts S) (g : sink.Ghosts O) (opens reopens : Files → Contents → Type 0) (stand : (files : Files) (c : Contents) → opens files c → reopens files c) (lines : Files → List ℕ → Type 0) (packed : Form → Files → Type 0) (task : Task) where
  -- what is left at this moment where nothing was begun
  first_left : (end : End) (old mid : S) (first : Mark) → IsUnbegun end → Fresh s old → Earlier s mid → Begins s opens old first → MovesTo s reopens old mid first → StopsOver s reopens (ExitsTask reopens packed task end [] first) (marks_of task first) old mid
  first_left end old mid first un fresh earlier h mv = record {
    exit = λ o l. exits_unbegun reopens packed task end first o un (still_first s reopens opens stand old mid first fresh earlier h mv o l);
    moments = opening_marks s reopens opens stand old mid first (marks_of task first) (first_marked task first) (kept_stands s reopens opens stand old first fresh h) mv;
  }

  -- the database wasn't opened
  pub over_unopened : (e : AnyErr) (old mid : S) (p : O) → Fresh s old → Earlier s mid → ((m : Mark) → Begins s opens old m → MovesTo s reopens old mid m) → (s.tells → writes_files task ≡ false → LeavesOnly s.moment s.left old mid (λ o. (o ≡ s.kept old) ⊎ (o ≡ Some (s.now old)))) → ManagesOver s g opens reopens lines packed task (end_of e) old mid p p
  over_unopened e old mid p fresh earlier moves rests = record {
    taken = [];
    told = Adds-none (g.taken p);
    silent = λ is. refl;
    ends = λ first h. record { on = on_unbegun lines task (end_of e) (s.now old) first (unbegun_of e); looks = λ reads o l. rests_left s old mid h.0 fresh earlier (rests h.0 reads) o l; stops = first_left (end_of e) old mid first (unbegun_of e) fresh earlier h (moves first h) };
  }

  -- the main file isn't as it is wanted
  pub over_misplaced : (old : S) (p : O) → Fresh s old → (s.tells → IsMisplaced task (s.now old)) → ManagesOver s g opens reopens lines packed task Refused old old p p
  over_misplaced old p fresh not = record {
    taken = [];
    told = Adds-none (g.taken p);
    silent = λ is. refl;
    ends = λ first h.
        let k = kept_stands s reopens opens stand old first fresh h in
        record {
          on = on_misplaced lines task (s.now old) first (not h.0);
          stops = record {
            exit = λ o l. exits_misplaced reopens packed task first o (moved k ((fresh h.0).0 o l));
            moments = record { leaves = record { later = omega arith; each = λ t o le l. inl l } };
          };
          looks = λ reads o l. (fresh h.0).0 o l ∙ (fresh h.0).1;
        };
  }

  -- it was opened
  pub over_managed : {B : Type 0} (holds : B → Files → Contents → Type 0) (result : Result Bool MgrErr) (base : B) (old mid new : S) (p q : O) → Fresh s old → Fresh s mid → Earlier s new
      → ((m : Mark) → Begins s opens old m → MovesTo s reopens old mid m) → ((m : Mark) → Begins s opens old m → HoldsMark s holds reopens base mid m) → (s.tells → wants_empty task ≡ false → s.now mid ≡ s.now old) → (s.tells → IsMisplaced task (s.now old) → ⊥)
      → (writes_files task ≡ false → Keeps s mid new) → Manages s g holds reopens lines task result base mid new p q → ((m : Mark) → HoldsMark s holds reopens base mid m → PacksTask s packed task result new) → ManagesOver s g opens reopens lines packed task (end_of_task result) old new p q
  over_managed holds result base old mid new p q fresh calm earlier moves marks same placed reads managed packs = record {
    taken = managed.taken;
    told = managed.told;
    silent = λ is. managed.none (silent_is result is);
    ends = λ first h.
        let hm = marks first h in
        let k = kept_stands s reopens opens stand old first fresh h in
        let m = managed.by first hm in
        let prints = λ (text : List ℕ) (x : Prints lines task (s.now mid) first.contents text). prints_same lines task (s.now mid) (s.now old) first.contents text (same h.0) x in
        record {
          on = record {
            placed = λ is. placed h.0;
            ok = λ is. sym (m.ok true (done_is result is));
            printed = λ is. prints managed.taken (m.whole (done_is result is));
            refused = λ is. inr (sym (m.ok false (refused_is result is)));
            front = ⊎_elim (λ nothing. inl nothing) (λ f. inr (record { ok = f.ok; text = f.text; prints = prints f.text f.prints; front = f.front })) m.printed;
          };
          stops = record {
            exit = λ o l. record {
              at = ⊎_elim
                  (λ at_mid. at_first reopens packed task first o (record { files = s.now mid; is = (calm h.0).0 o at_mid ∙ (calm h.0).1; stand = record { contents = hm.stand; log = hm.has.log } }))
                  (λ marked. marked)
                  (m.moments.leaves.each (s.moment mid) o (omega arith) (earlier (s.moment mid) (s.moment new) o m.moments.leaves.later l));
              last = λ more. m.last (⊎_elim (λ c. inl (carried_is result c)) (λ some. inr some) more) o l;
              stay = λ is. subst (λ (c : Contents). Reopens reopens o (with_contents first c)) (failed_same task first.contents (sym (m.ok false (refused_is result is)))) (m.last (inl (subst IsThrough (sym (refused_is result is)) tt)) o l);
              packs = λ f pack done. packs first hm f pack (done_is result done) o l;
            };
            moments = marks_then s reopens old mid new (marks_of task first) (opening_marks s reopens opens stand old mid first (marks_of task first) (first_marked task first) k (moves first h)) m.moments;
          };
          looks = λ only o l. still_left s mid new o calm earlier h.0 ((reads only).steady h.0) l ∙ ap (λ (f : Files). Some f) (same h.0 (reads_there task only));
        };
  }

-- ---- over a volume

module _ {V O : Type 0} {v : volume.Ghosts V} (g : sink.Ghosts O) (reopens : Files → Contents → Type 0) (lines : Files → List ℕ → Type 0) (packed : Files → Form → Files → Type 0) (task : Task) where
  -- the run never came to an open space
  pub managed_unopened : (kind : Kind) {name : List ℕ} (end : End) {old new : V} (p : O) → EndsUnopened v name end old new → FilesManaged v.tells g (OpensTo kind reopens) reopens lines packed task end (v.calls old) (v.calls new) p p
  managed_unopened kind end {old} {new} p u = let un = unbegun_early end (early_of u) in record {
    taken = [];
    told = Adds-none (g.taken p);
    silent = λ is. refl;
    broken = unopened_broken u;
    ends = λ settled first h. record {
      on = on_unbegun lines task end h.1.files first un;
      looks = λ reads ims are. ⊎_elim (λ is. inl (is ∙ h.1.is)) (λ lost. inr ((early_of u, refl), lost.0, lost.1)) ((u.leaves h.0 settled).exit ims are);
      stops = stops_unopened reopens _ _ _ (v.calls old) (v.calls new) first (early_of u, refl) (u.leaves h.0 settled) (of_kind kind reopens _ first h.1) (λ o r. exits_unbegun reopens (packed h.1.files) task end first o un r);
    };
  }

  -- recovery ended well, and the task was carried out over the space
  pub managed_run : {S : Type 0} {s : space.Ghosts S} {name : List ℕ} {most : ℕ} {vol w : V} {a t : S} (opens : Files → Contents → Type 0) {end : End} {p q : O} → OpensNamed s v name most vol a → Closes s v t w → ManagesOver s g opens reopens lines (packed (s.now a)) task end a t p q → FilesManaged v.tells g opens reopens lines packed task end (v.calls vol) (v.calls w) p q
  managed_run {S} {s} {name} {most} {vol} {w} opens {end} o closed run = record {
    taken = run.taken;
    told = run.told;
    silent = run.silent;
    broken = opened_whole o (v.calls w);
    ends = λ settled first h.
        let r = run.ends first (begins_so o opens first h) in
        subst (λ (f : Files). TaskRun reopens lines (packed f) task end f (v.calls vol) (v.calls w) run.taken first) (sym (same_files o h.1.files h.0 h.1.is)) (record {
          on = r.on;
          stops = stops_run reopens _ _ _ (o.over h.0) closed settled r.stops;
          looks = λ reads ims are. inl (r.looks reads (recovered ims) (exit_left closed ims are));
        });
  }

-- ---- what is judged, and limits

pub judged_task_as : (end : End) (stand reason stand' reason' : Type 0) (breaks breaks' : ℕ → Rule → Type 0) → (stand → stand') → ((file : ℕ) (rule : Rule) → breaks file rule → breaks' file rule) → (reason → reason') → JudgedTask end stand breaks reason → JudgedTask end stand' breaks' reason'
judged_task_as Done stand reason stand' reason' breaks breaks' f h r j = f j
judged_task_as Words stand reason stand' reason' breaks breaks' f h r j = j
judged_task_as Refused stand reason stand' reason' breaks breaks' f h r j = r j
judged_task_as VolumeFault stand reason stand' reason' breaks breaks' f h r j = tt
judged_task_as (Broken file rule) stand reason stand' reason' breaks breaks' f h r j = h file rule j
judged_task_as NoMemory stand reason stand' reason' breaks breaks' f h r j = tt
judged_task_as Full stand reason stand' reason' breaks breaks' f h r j = f j
judged_task_as WireFault stand reason stand' reason' breaks breaks' f h r j = f j
judged_task_as TurnsSpent stand reason stand' reason' breaks breaks' f h r j = j

-- a task that was begun
pub judged_begun : (r : Result Bool MgrErr) (stand reason : Type 0) (breaks : ℕ → Rule → Type 0) → stand → (r ≡ Ok false → reason) → JudgedTask (end_of_task r) stand breaks reason
judged_begun (Ok true) stand reason breaks is why = is
judged_begun (Ok false) stand reason breaks is why = why refl
judged_begun (Err mgr.Full) stand reason breaks is why = is
judged_begun (Err mgr.Fault) stand reason breaks is why = tt
judged_begun (Err mgr.Sink) stand reason breaks is why = is
judged_begun (Err mgr.Memory) stand reason breaks is why = tt

pub full_is : (r : Result Bool MgrErr) → end_of_task r ≡ Full → r ≡ Err mgr.Full
full_is (Ok true) is = absurd cc
full_is (Ok false) is = absurd cc
full_is (Err mgr.Full) is = refl
full_is (Err mgr.Fault) is = absurd cc
full_is (Err mgr.Sink) is = absurd cc
full_is (Err mgr.Memory) is = absurd cc

module _ {S V : Type 0} {s : space.Ghosts S} {v : volume.Ghosts V} {name : List ℕ} {most : ℕ} {vol : V} {a : S} (o : OpensNamed s v name most vol a) (opens : Files → Contents → Type 0) (task : Task) where
  pub reason_so : ReasonOver s opens task a → v.tells → RefusedAt opens task (v.calls vol)
  reason_so r t = let b = o.over t in record { which = ⊎_elim (λ not. inl (s.now a, b.files, not)) (λ x. inr (x.0, record { files = s.now a; is = b.files; stand = x.1 }, x.2)) (r.which b.tells) }

  pub full_task_so : {lacks : Type 0} (fills : Task → Contents → Type 0) → FullTask s.tells (s.now a 0 ≡ []) lacks fills (Begins s opens a) task
      → FullTask v.tells (MainIsBare (recovered (now (v.calls vol)))) lacks fills (BeginsAt v.tells opens (v.calls vol)) task
  full_task_so fills x = record { writes = λ t. x.writes (o.over t).tells; which = ⊎_elim (λ y. inl (bare_so o opens y)) (λ y. inr (λ first h. y first (begins_so o opens first h))) x.which }
