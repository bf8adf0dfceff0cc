-- The requests of a drill, one behind another.
use Rattle.std.proofs.Common.{◌≡◌, ◌≤◌, ◌+◌, ℕ, Bool, false, cond, List, sym, ap, subst, ◌∙◌, inl, inr, ⊎_elim, arith, add-one}
use Rattle.std.specs.Prelude.{None}
use Rattle.tc_base.specs.Files.{Files}
use Rattle.tc_base.specs.declared.request.Request.{Request}
use Rattle.tc_space.specs.declared.space.Space as space
use Rattle.tc_model.specs.Apply.{Step, apply}
use Rattle.tc_model.specs.Contents.{Contents, is_table}
use Rattle.tc_model.specs.declared.applied.Applied.{Applied}
use Rattle.ty_base.specs.Holding.{Held, IsReady, Stays}
use Rattle.ty_world.specs.World.{Mark}
use Rattle.tk_mgr.specs.Asking.{Answers}
use Rattle.tk_mgr.specs.Drilling.{Counts, Holds, Makes, Tells}
use Rattle.tk_mgr.specs.Drills.{Drilled, drawn, drilled, one_more, request_of, step_of}
use Rattle.tk_mgr.specs.Managing.{FillsTask}
use Rattle.tk_mgr.specs.declared.run.Run.{Run}
use Rattle.tk_mgr.specs.declared.task.Task.TheVariants.{Drill}

drilled_more : (k seed : ℕ) (c : Contents) → drilled (k + 1) seed c ≡ one_more (drilled k seed c)
unfolding drilled
drilled_more k seed c = ap (λ (n : ℕ). drilled n seed c) (add-one k)

-- ---- limits

module _ (log_is_full : Type 0) (fills : Contents → Contents → Type 0) (lacks_large : Contents → Type 0) where
  pub fills_within : (seed n k : ℕ) (c : Contents) → n ≤ k → FillsTask log_is_full fills lacks_large (Drill seed n) c → FillsTask log_is_full fills lacks_large (Drill seed k) c
  fills_within seed n k c le f = record { step = f.step; within = omega (arith, f.within); by = ⊎_elim (λ x. inl (omega (arith, x.0), x.1)) (λ x. inr x) f.by }

  -- as what was made is brought to the files, or asked for
  pub fills_still : (seed n k : ℕ) (c : Contents) → n ≤ k → log_is_full → FillsTask log_is_full fills lacks_large (Drill seed k) c
  fills_still seed n k c le full = record { step = n; within = le; by = inr (inl full) }

-- ---- one request

-- what it determines, where its number was drawn behind that of the run
abbrev pub Determines : Run → Bool → ℕ → Request → Contents → Type 0
Determines run rows x r c = (x ≡ drawn run.drawn) × (r ≡ request_of rows x) × (rows ≡ is_table c)

step_is : (seed : ℕ) (run : Run) (rows : Bool) (x : ℕ) (r : Request) (c : Contents) → Counts seed c run → Determines run rows x r (drilled run.made seed c).contents → apply false r (drilled run.made seed c).contents None ≡ step_of (drilled run.made seed c)
step_is seed run rows x r c counts is =
    let d = drilled run.made seed c in
    let e : r ≡ request_of (is_table d.contents) (drawn d.drawn_last) = is.1 ∙ ap (λ (b : Bool). request_of b x) is.2 ∙ ap (request_of (is_table d.contents)) (is.0 ∙ ap drawn counts.drawn) in
    ap (λ (q : Request). apply false q d.contents None) e

module _ {S B : Type 0} (s : space.Ghosts S) (holds : B → Files → Contents → Type 0) where
  -- a request that was answered leaves what is held ready for the next
  pub answered_ready : (r : Request) (a : Applied) (base base' : B) (old new : S) (reply : List ℕ) → IsReady s holds base old → s.sound new → ((c : Contents) → Held s holds base old c → Answers s holds r a c base' new reply) → IsReady s holds base' new
  answered_ready r a base base' old new reply is sound answers = record { sound = sound; held = λ t. let h = is.held t in ((apply false r h.0 None).contents, (answers h.0 (t, h.1)).held.1) }

  -- it was made, and counted where it succeeded
  pub one_made : (seed : ℕ) (m : Mark) (run run' : Run) (rows : Bool) (x : ℕ) (r : Request) (a : Applied) (base base' : B) (old new : S) (reply : List ℕ)
      → run'.made ≡ run.made + 1 → run'.drawn ≡ x → run'.accepted ≡ cond a.ok (run.accepted + 1) run.accepted
      → ((c : Contents) → Held s holds base old c → Determines run rows x r c)
      → ((c : Contents) → Held s holds base old c → Answers s holds r a c base' new reply)
      → Stays s 2 old new → Holds s holds seed run base old m → Holds s holds seed run' base' new m
  one_made seed m run run' rows x r a base base' old new reply made drew accepted determines answers log h =
      let c = m.contents in
      let d = drilled run.made seed c in
      let is = determines d.contents h.has.held in
      let step : apply false r d.contents None ≡ step_of d = step_is seed run rows x r c h.counts is in
      let answer = answers d.contents h.has.held in
      let after : drilled run'.made seed c ≡ one_more d = ap (λ (n : ℕ). drilled n seed c) made ∙ drilled_more run.made seed c in
      let contents : (apply false r d.contents None).contents ≡ (drilled run'.made seed c).contents = ap (λ (q : Step). q.contents) step ∙ sym (ap (λ (q : Drilled). q.contents) after) in
      let ok : a.ok ≡ (step_of d).ok = answer.ok ∙ ap (λ (q : Step). q.ok) step in
      record {
        counts = record {
          drawn = drew ∙ is.0 ∙ ap drawn h.counts.drawn ∙ sym (ap (λ (q : Drilled). q.drawn_last) after);
          accepted = accepted ∙ ap (λ (n : ℕ). cond a.ok (n + 1) n) h.counts.accepted ∙ ap (λ (b : Bool). cond b (d.accepted + 1) d.accepted) ok ∙ sym (ap (λ (q : Drilled). q.accepted) after);
        };
        has = record {
          held = (h.has.held.0, subst (λ (e : Contents). holds base' (s.now new) e) contents answer.held.1);
          log = log.same h.has.held.0 ∙ h.has.log;
        };
      }

  -- a limit was reached as it was made
  pub one_fills : (log_is_full : Type 0) (fills : Contents → Contents → Type 0) (lacks_large : Contents → Type 0) (seed : ℕ) (m : Mark) (run : Run) (rows : Bool) (x : ℕ) (r : Request) (base : B) (old : S)
      → ((c : Contents) → Held s holds base old c → Determines run rows x r c)
      → ((c : Contents) → Held s holds base old c → fills c (apply false r c None).contents) → Holds s holds seed run base old m → FillsTask log_is_full fills lacks_large (Drill seed (run.made + 1)) m.contents
  one_fills log_is_full fills lacks_large seed m run rows x r base old determines full h =
      let c = m.contents in
      let d = drilled run.made seed c in
      let step : apply false r d.contents None ≡ step_of d = step_is seed run rows x r c h.counts (determines d.contents h.has.held) in
      let after : (apply false r d.contents None).contents ≡ (drilled (run.made + 1) seed c).contents = ap (λ (q : Step). q.contents) step ∙ sym (ap (λ (q : Drilled). q.contents) (drilled_more run.made seed c)) in
      record { step = run.made; within = omega arith; by = inl (omega arith, subst (λ (e : Contents). fills d.contents e) after (full d.contents h.has.held)) }

  -- ---- some more

  pub makes_none : (run : Run) (base : B) (a : S) → IsReady s holds base a → Makes s holds 0 run run base base a a
  makes_none run base a is = record { made = omega arith; ready = is; each = λ seed m h. h }

  pub makes_then : (j k : ℕ) (run run' run'' : Run) (base base' base'' : B) (a b d : S) → Makes s holds j run run' base base' a b → Makes s holds k run' run'' base' base'' b d → Makes s holds (j + k) run run'' base base'' a d
  makes_then j k run run' run'' base base' base'' a b d first second = record { made = omega (arith, first.made, second.made); ready = second.ready; each = λ seed m h. second.each seed m (first.each seed m h) }

  pub makes_as : (j k : ℕ) (run run' : Run) (base base' : B) (a b : S) → j ≡ k → Makes s holds j run run' base base' a b → Makes s holds k run run' base base' a b
  makes_as j k run run' base base' a b is makes = subst (λ (n : ℕ). Makes s holds n run run' base base' a b) is makes

  pub tells_then : (more : ℕ) (run run' : Run) (base base' : B) (a b : S) (text : List ℕ) → Makes s holds more run run' base base' a b → Tells s holds run' run'.made base' b text → Tells s holds run (run.made + more) base a text
  tells_then more run run' base base' a b text makes tells = subst (λ (n : ℕ). Tells s holds run n base a text) makes.made (record { each = λ seed m h. tells.each seed m (makes.each seed m h) })
