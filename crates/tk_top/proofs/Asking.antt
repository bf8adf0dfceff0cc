-- A run of what is asked for.
use Rattle.std.proofs.Common.{◌≡◌, inl, inr, ⊎_elim, ℕ, List, [], refl, sym, subst, ◌∙◌}
use Rattle.std.specs.Prelude.{Option, Some, None}
use Rattle.tc_io.specs.declared.sink.Sink as sink
use Rattle.tc_io.specs.declared.volume.Volume as volume
use Rattle.tc_io.specs.declared.wire.At.{At}
use Rattle.tc_io.specs.declared.wire.Wire as wire
use Rattle.ty_world.specs.Logs.{Settings}
use Rattle.ty_rounds.proofs.Telling.{Adds-none}
use Rattle.tk_top.specs.declared.ends.End.{End}
use Rattle.tk_top.specs.declared.ends.End.TheVariants.{Words, NoMemory}
use Rattle.tk_top.specs.Logging.{IsUnlogged, breaks_logged, logging, opens_logged}
use Rattle.tk_top.specs.Over.{BreaksAt, JudgedOn, StandsFor}
use Rattle.tk_top.specs.Making.{InShape, IsThere, JudgedMaking, MainIsEmpty, MainIsThere}
use Rattle.ty_base.specs.Holding.{Laid, no_layout}
use Rattle.tk_top.specs.Stored.{anew_of, breaks_new_of, breaks_of, kind_in, layout_of, lines_in, numbers_of, own_of, packed_in, reopens_of, stored_as, usual_of}
use Rattle.tk_top.specs.Tasks.{IsMisplaced, JudgedTask, RefusedAt}
use Rattle.tk_top.specs.Top.{AskedRun, CausedBy, DrillsMemory, FileRun, IsDrilled, IsServing, LoggedRun, MakesFiles, Opens, RunsAsked, SourceRun, TaskOnFiles}
use Rattle.tk_mgr.specs.Managing.{packing, said_by}
use Rattle.tk_mgr.specs.declared.task.Task.{Task}
use Rattle.tk_top.specs.declared.words.Asked.{Asked}
use Rattle.tk_top.specs.declared.words.Asked.TheVariants as asked
use Rattle.tk_top.specs.declared.words.Memory.{Memory}
use Rattle.tk_top.specs.declared.words.Shape.{Shape}
use Rattle.tk_top.specs.declared.words.Source.{Source}
use Rattle.tk_top.specs.declared.words.Source.TheVariants as source
use Rattle.tk_top.specs.declared.words.Stored.{Stored}
use Rattle.tk_top.proofs.Made.{made_unopened}
use Rattle.tk_top.proofs.LoggedRuns.{logged_unnamed, unopened_came}
use Rattle.tk_top.proofs.Managed.{managed_unopened}
use Rattle.tk_top.proofs.Memory.{memory_none}
use Rattle.tk_top.proofs.Named.{ends_unnamed}
use Rattle.tk_top.specs.Starts.{plainly}
use Rattle.tk_top.specs.Staying.{IsDamaged}
use Rattle.tk_top.proofs.Staying.{left_alone_unnamed, spares_unnamed}
use Rattle.tk_top.proofs.Stopping.{files_unopened}

module _ {V W O : Type 0} (v : volume.Ghosts V) (g : wire.Ghosts W) (o : sink.Ghosts O) where
  -- there was no memory before any call
  file_none : (name : List ℕ) (stored : Stored) (limit : ℕ) (at : At) (turns : ℕ) (vol : V) (x : W) → FileRun v g NoMemory name stored limit at turns vol vol x x
  file_none name stored limit at turns vol x = record {
    names = record { told = (ends_unnamed v name vol).names.told };
    told = files_unopened g plainly (kind_in stored) (reopens_of stored) NoMemory turns at x refl (ends_unnamed v name vol);
    laid = λ l. files_unopened g plainly (kind_in stored) (Laid (own_of stored) (layout_of stored) l (reopens_of stored)) NoMemory turns at x refl (ends_unnamed v name vol);
    judged = tt;
    guards = record { begun = inl refl; copied = inl (λ t. refl); spared = spares_unnamed (ends_unnamed v name vol) (IsDamaged (Opens stored)); within = λ out. absurd (⊎_elim (λ is. cc) (λ is. cc) out) };
    full = λ e. absurd cc;
    caused = tt;
  }

  logged_none : (name : List ℕ) (stored : Stored) (limit : ℕ) (is : Settings) (at : At) (turns : ℕ) (vol : V) (x : W) (c : Option (List ℕ)) → LoggedRun v g NoMemory name stored limit is at turns [] vol vol x x c c
  logged_none name stored limit is at turns vol x c =
      let run = logged_unnamed g is (reopens_of stored) (numbers_of (usual_of stored)) (kind_in stored) NoMemory turns at x c (ends_unnamed v name vol) in
      record {
        names = record { told = (ends_unnamed v name vol).names.told };
        told = run.0;
        gaps_are = run.1;
        met = inl refl;
        laid = λ l. (logged_unnamed g is (Laid (own_of stored) (layout_of stored) l (reopens_of stored)) (numbers_of (usual_of stored)) (kind_in stored) NoMemory turns at x c (ends_unnamed v name vol)).0;
        judged = tt;
        stood = λ came. absurd (unopened_came (ends_unnamed v name vol) came);
        guards = record { begun = inl refl; copied = inl (λ t. refl); spared = spares_unnamed (ends_unnamed v name vol) (IsDamaged (opens_logged (Opens stored))); within = λ out. absurd (⊎_elim (λ is. cc) (λ is. cc) out) };
        unlogged = spares_unnamed (ends_unnamed v name vol) IsUnlogged;
        full = λ e. absurd cc;
        caused = tt;
      }

  source_none : (s : Source) (at : At) (turns : ℕ) (vol : V) (x : W) (c : Option (List ℕ)) → SourceRun v g NoMemory s at turns [] vol vol x x c c
  source_none (source.Memory memory) at turns vol x c = (memory_none g memory at turns x, (refl, refl))
  source_none (source.File name stored limit) at turns vol x c = (file_none name stored _ at turns vol x, refl)
  source_none (source.Logged name stored limit own master) at turns vol x c = logged_none name stored _ (logging own master) at turns vol x c

  task_none : (name : List ℕ) (stored : Stored) (task : Task) (vol : V) (p : O) → TaskOnFiles v o NoMemory name stored task vol vol p p
  task_none name stored task vol p = record {
    names = (ends_unnamed v name vol).names;
    told = managed_unopened o (reopens_of stored) (lines_in stored) (packed_in stored) task (kind_in stored) NoMemory p (ends_unnamed v name vol);
    laid = λ l. managed_unopened o (Laid (own_of stored) (said_by (packing task) (layout_of stored)) l (reopens_of stored)) (lines_in stored) (packed_in stored) task (kind_in stored) NoMemory p (ends_unnamed v name vol);
    formed = record { formed = λ first h f packs done. absurd cc };
    judged = tt;
    guards = record { begun = inl refl; spared = spares_unnamed (ends_unnamed v name vol) (IsDamaged (Opens stored)); misplaced = left_alone_unnamed (ends_unnamed v name vol) (IsMisplaced task) };
    full = λ e. absurd cc;
    caused = tt;
  }

  make_none : (name : List ℕ) (shape : Shape) (vol : V) → MakesFiles v NoMemory name shape vol vol
  make_none name shape vol = record {
    names = (ends_unnamed v name vol).names;
    made = made_unopened (reopens_of (stored_as shape)) (numbers_of shape) (anew_of shape) NoMemory (ends_unnamed v name vol);
    shaped = made_unopened (InShape (reopens_of (stored_as shape)) (numbers_of shape)) (numbers_of shape) (anew_of shape) NoMemory (ends_unnamed v name vol);
    laid = λ l. made_unopened (Laid (own_of (stored_as shape)) no_layout l (reopens_of (stored_as shape))) (numbers_of shape) (anew_of shape) NoMemory (ends_unnamed v name vol);
    judged = tt;
    there = left_alone_unnamed (ends_unnamed v name vol) IsThere;
    full = λ e. absurd cc;
    caused = λ count count'. tt;
  }

  drill_none : (memory : Memory) (seed n : ℕ) (p : O) → DrillsMemory o NoMemory memory seed n p p
  drill_none memory seed n p = record { ends = tt; taken = []; told = Adds-none (o.taken p); front = (_, refl); done = λ e. absurd cc; caused = λ count count'. tt }

  run_none : (a : Asked) (vol : V) (x : W) (p : O) (c : Option (List ℕ)) → AskedRun v g o NoMemory a [] vol vol x x p p c c
  run_none (asked.Serve source at turns) vol x p c = (source_none source at turns vol x c, refl)
  run_none (asked.Task name stored task) vol x p c = (task_none name stored task vol p, (refl, refl))
  run_none (asked.Create name shape) vol x p c = (make_none name shape vol, (refl, (refl, refl)))
  run_none (asked.Drill memory seed n) vol x p c = (drill_none memory seed n p, (refl, (refl, refl)))

  -- what is served doesn't end for its words
  served_words : (s : Source) (end : End) (at : At) (turns : ℕ) (gaps : List (ℕ × ℕ)) (vol vol' : V) (x y : W) (c d : Option (List ℕ)) → SourceRun v g end s at turns gaps vol vol' x y c d → end ≡ Words → ⊥
  served_words (source.Memory memory) end at turns gaps vol vol' x y c d run is = subst IsServing is run.0.ends
  served_words (source.File name stored limit) end at turns gaps vol vol' x y c d run is = subst (λ (e : End). JudgedOn v (Opens stored) (breaks_of stored) e vol vol') is run.0.judged
  served_words (source.Logged name stored limit own master) end at turns gaps vol vol' x y c d run is = subst (λ (e : End). JudgedOn v (Opens stored) (breaks_logged (Opens stored) (breaks_of stored)) e vol vol') is run.judged

  -- nor does what is made or done
  not_words : (a : Asked) (end : End) (gaps : List (ℕ × ℕ)) (vol vol' : V) (x y : W) (p q : O) (c d : Option (List ℕ)) → AskedRun v g o end a gaps vol vol' x y p q c d → end ≡ Words → ⊥
  not_words (asked.Serve source at turns) end gaps vol vol' x y p q c d run is = served_words source end at turns gaps vol vol' x y c d run.0 is
  not_words (asked.Task name stored task) end gaps vol vol' x y p q c d run is = subst (λ (e : End). JudgedTask e (v.tells → StandsFor (Opens stored) (v.calls vol)) (λ file rule. v.tells → BreaksAt (breaks_of stored) (v.calls vol) (v.calls vol') file rule) (v.tells → RefusedAt (Opens stored) task (v.calls vol))) is run.0.judged
  not_words (asked.Create name shape) end gaps vol vol' x y p q c d run is = subst (λ (e : End). JudgedMaking e (v.tells → MainIsEmpty (reopens_of (stored_as shape)) (v.calls vol)) (λ file rule. v.tells → BreaksAt (breaks_new_of shape) (v.calls vol) (v.calls vol') file rule) (v.tells → MainIsThere (v.calls vol) (v.calls vol'))) is run.0.judged
  not_words (asked.Drill memory seed n) end gaps vol vol' x y p q c d run is = subst IsDrilled is run.0.ends

  -- and a fault has its cause
  caused_run : (a : Asked) (end : End) (gaps : List (ℕ × ℕ)) (vol vol' : V) (x y : W) (p q : O) (c d : Option (List ℕ)) → AskedRun v g o end a gaps vol vol' x y p q c d → CausedBy v.faults g.faults o.faults end vol vol' x y p q
  caused_run (asked.Serve (source.Memory memory) at turns) end gaps vol vol' x y p q c d run = inl (run.0.0.caused (v.faults vol) (v.faults vol'))
  caused_run (asked.Serve (source.File name stored limit) at turns) end gaps vol vol' x y p q c d run = inl run.0.0.caused
  caused_run (asked.Serve (source.Logged name stored limit own master) at turns) end gaps vol vol' x y p q c d run = inl run.0.caused
  caused_run (asked.Task name stored task) end gaps vol vol' x y p q c d run = inr run.0.caused
  caused_run (asked.Create name shape) end gaps vol vol' x y p q c d run = inl (run.0.caused (g.faults x) (g.faults y))
  caused_run (asked.Drill memory seed n) end gaps vol vol' x y p q c d run = inr (run.0.caused (v.faults vol) (v.faults vol'))

  some_asked : (a b : Asked) → Some a ≡ Some b → a ≡ b
  some_asked a b e = cc

  pub asked_memory : (want : Option Asked) (vol : V) (x : W) (p : O) (c : Option (List ℕ)) → RunsAsked v g o want [] NoMemory vol vol x x p p c c
  asked_memory want vol x p c = record { served = λ a is. run_none a vol x p c; words = λ e. absurd cc; refused = λ n. inr refl; unserved = λ n. (refl, (refl, (refl, refl))); caused = inl tt }

  pub asked_none : (want : Option Asked) (vol : V) (x : W) (p : O) (c : Option (List ℕ)) → want ≡ None → RunsAsked v g o want [] Words vol vol x x p p c c
  asked_none want vol x p c is = record { served = λ a some. absurd (let f = sym is ∙ some in cc); words = λ e. is; refused = λ n. inl refl; unserved = λ n. (refl, (refl, (refl, refl))); caused = inl tt }

  pub asked_some : (want : Option Asked) (gaps : List (ℕ × ℕ)) (end : End) (a : Asked) (vol vol' : V) (x y : W) (p q : O) (c d : Option (List ℕ)) → want ≡ Some a → AskedRun v g o end a gaps vol vol' x y p q c d → RunsAsked v g o want gaps end vol vol' x y p q c d
  asked_some want gaps end a vol vol' x y p q c d is run = record {
    served = λ b some. subst (λ (e : Asked). AskedRun v g o end e gaps vol vol' x y p q c d) (some_asked a b (sym is ∙ some)) run;
    words = λ e. absurd (not_words a end gaps vol vol' x y p q c d run e);
    refused = λ n. absurd (let f = sym is ∙ n in cc);
    unserved = λ n. absurd (let f = sym is ∙ n in cc);
    caused = caused_run a end gaps vol vol' x y p q c d run;
  }
