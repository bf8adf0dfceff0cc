-- What is done with the files of a name, of a kind that stands today.
use Rattle.std.proofs.Common.{◌≡◌, ℕ, List, sym, subst}
use Rattle.std.specs.Prelude.{Option}
use Rattle.tc_base.specs.Files.{Files}
use Rattle.tc_base.specs.declared.kind.Rule.{Rule}
use Rattle.tc_io.specs.declared.sink.Sink as sink
use Rattle.tc_io.specs.declared.volume.Volume as volume
use Rattle.tc_io.specs.declared.wire.Wire as wire
use Rattle.tc_space.specs.declared.space.Space as space
use Rattle.tk_top.specs.declared.ends.End.{End}
use Rattle.tk_top.specs.Logging.{logging}
use Rattle.tk_top.specs.Making.{LacksOn}
use Rattle.tk_top.specs.Stored.{anew_of, breaks_new_of, breaks_of, kind_in, layout_of, lines_in, numbers_of, own_of, packed_in, reopens_of, stored_as, usual_of}
use Rattle.tk_top.specs.Top.{AskedRun, IsLacking, LogIsFull, MakesFiles}
use Rattle.tk_top.specs.Works.{JobBy, RemakesFiles, WorkBy, asked_as, asked_to}
use Rattle.tk_top.specs.declared.words.Shape.{Shape}
use Rattle.tk_top.specs.declared.words.Stored.{Stored}
use Rattle.tk_top.specs.declared.working.Job.{Job}
use Rattle.tk_top.specs.declared.working.Job.TheVariants as jobs
use Rattle.tk_top.specs.declared.working.Work.{Work}
use Rattle.tk_top.specs.declared.working.Work.TheVariants as works
use Rattle.tk_top.proofs.Limits.{FillsTold, LacksLargeTold, LacksTold, is_full, is_full_logged, is_full_task, is_lacking}

-- a limit that was reached over a space is one of its volume
module _ {S V W O : Type 0} (v : volume.Ghosts V) (s : space.Ghosts S) (g : wire.Ghosts W) (o : sink.Ghosts O) (under : S → V) (log_is : (x : S) → s.log_full x → LogIsFull v (under x)) (stored : Stored) where
  job_so : (j : Job) (end : End) (name : List ℕ) (gaps : List (ℕ × ℕ)) (old new : V) (x y : W) (p q : O) (c d : Option (List ℕ))
      → JobBy v s g o under (kind_in stored) (reopens_of stored) (own_of stored) (layout_of stored) (numbers_of (usual_of stored)) (breaks_of stored) (lines_in stored) (packed_in stored) (λ z. LacksTold s (usual_of stored) z) (λ a z. FillsTold s stored z) (λ a z. LacksLargeTold s stored a z) j end name gaps old new x y p q c d
      → AskedRun v g o end (asked_to stored name j) gaps old new x y p q c d
  job_so (jobs.Serve limit at turns) end name gaps old new x y p q c d done = let run = done.0.0 in (
    (
      record {
        names = run.names;
        told = run.told;
        laid = run.laid;
        judged = run.judged;
        guards = run.guards;
        full = λ is. is_full v s under log_is stored (g.transcript x) (g.transcript y) (run.full is);
        caused = run.caused;
      },
      done.0.1,
    ),
    done.1,
  )
  job_so (jobs.Log own master limit at turns) end name gaps old new x y p q c d done = let run = done.0 in (
    record {
      names = run.names;
      told = run.told;
      gaps_are = run.gaps_are;
      met = run.met;
      laid = run.laid;
      judged = run.judged;
      stood = run.stood;
      guards = run.guards;
      unlogged = run.unlogged;
      full = λ is. is_full_logged v s under log_is stored (logging own master) run.told.ticks (g.transcript x) (g.transcript y) (run.full is);
      caused = run.caused;
    },
    done.1,
  )
  job_so (jobs.Task task) end name gaps old new x y p q c d done = let run = done.0 in (
    record {
      names = run.names;
      told = run.told;
      laid = run.laid;
      formed = run.formed;
      judged = run.judged;
      guards = run.guards;
      full = λ is. is_full_task v s under log_is stored task (run.full is);
      caused = run.caused;
    },
    done.1,
  )

  remade_so : (shape : Shape) (end : End) (name : List ℕ) (old new : V) → stored_as shape ≡ stored → RemakesFiles v (reopens_of stored) (own_of stored) (numbers_of shape) (anew_of shape) (breaks_new_of shape) (LacksOn v s under (λ z h. LacksTold s h z) shape old new) end name old new → MakesFiles v end name shape old new
  remade_so shape end name old new same run = subst (λ (kept : Stored). RemakesFiles v (reopens_of kept) (own_of kept) (numbers_of shape) (anew_of shape) (breaks_new_of shape) (IsLacking v shape old new) end name old new) (sym same) (record {
    names = run.names;
    made = run.made;
    shaped = run.shaped;
    laid = run.laid;
    judged = run.judged;
    there = run.there;
    full = λ is. is_lacking v s under log_is shape (run.full is);
    caused = run.caused;
  })

  -- so what was done is what was asked for
  pub work_so : {N : Type 0} (shaped : N → Shape) (breaks_new : Files → ℕ → Rule → Type 0) → ((n : N) → stored_as (shaped n) ≡ stored) → ((n : N) → breaks_new ≡ breaks_new_of (shaped n)) → (work : Work N) (end : End) (name : List ℕ) (gaps : List (ℕ × ℕ)) (old new : V) (x y : W) (p q : O) (c d : Option (List ℕ))
      → WorkBy v s g o under (kind_in stored) (reopens_of stored) (own_of stored) (layout_of stored) (numbers_of (usual_of stored)) (breaks_of stored) (lines_in stored) (packed_in stored) (λ z. LacksTold s (usual_of stored) z) (λ a z. FillsTold s stored z) (λ a z. LacksLargeTold s stored a z)
      (λ n. numbers_of (shaped n)) (λ n. anew_of (shaped n)) breaks_new (λ z n. LacksTold s (shaped n) z) work end name gaps old new x y p q c d
      → AskedRun v g o end (asked_as stored shaped name work) gaps old new x y p q c d
  work_so shaped breaks_new same named (works.Do job) end name gaps old new x y p q c d done = job_so job end name gaps old new x y p q c d done
  work_so shaped breaks_new same named (works.Make n) end name gaps old new x y p q c d done = (
    remade_so (shaped n.now) end name old new (same n.now)
        (subst (λ (b : Files → ℕ → Rule → Type 0). RemakesFiles v (reopens_of stored) (own_of stored) (numbers_of (shaped n.now)) (anew_of (shaped n.now)) b (LacksOn v s under (λ z h. LacksTold s h z) (shaped n.now) old new) end name old new) (named n.now) done.0),
    done.1,
  )
