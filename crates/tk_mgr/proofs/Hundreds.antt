-- What a stop leaves of a drill.
use Rattle.std.proofs.Common.{◌≡◌, ◌≤◌, ◌+◌, ◌*◌, ◌/◌, ◌%◌, ℕ, zero, suc, map, refl, ap, subst, ◌∙◌, inl, inr, ⊎_elim, arith}
use Rattle.std.specs.Prelude.{Option, Some}
use Rattle.std.proofs.lemmas.Bool.{cases_lt}
use Rattle.tc_base.specs.Files.{Files}
use Rattle.tc_space.specs.declared.space.Space as space
use Rattle.tc_model.specs.Contents.{Contents}
use Rattle.ty_world.specs.World.{Mark}
use Rattle.ty_rounds.specs.Kept.{AtMark, IsIn, LeavesMarks, MovesTo, Reopens}
use Rattle.tk_mgr.specs.Drilling.{AtHundred, LeavesHundreds, Stands, mark_behind}
use Rattle.tk_mgr.specs.Drills.{drilled}
use Rattle.tk_mgr.specs.Managing.{marks_of, with_contents}
use Rattle.tk_mgr.specs.Tasks.{hundreds}
use Rattle.tk_mgr.specs.declared.run.Run.{Run}
use Rattle.tk_mgr.specs.declared.task.Task.TheVariants.{Drill}

-- ---- marks behind hundreds of requests are among those of the task

first_among : (seed k : ℕ) (m : Mark) → k ≡ 0 → IsIn (mark_behind (100 * k) seed m) (map (with_contents m) (hundreds seed 0 m.contents))
unfolding drilled
first_among seed k m is = inl (ap (λ (n : ℕ). mark_behind (100 * n) seed m) is)

among : (seed n k : ℕ) (m : Mark) → k ≤ n → IsIn (mark_behind (100 * k) seed m) (map (with_contents m) (hundreds seed n m.contents))
among seed zero k m le = first_among seed k m (omega arith)
among seed (suc n) k m le = ⊎_elim (λ less. inr (among seed n k m (omega arith))) (λ more. let is : k ≡ suc n = omega arith in inl (ap (λ (i : ℕ). mark_behind (100 * i) seed m) is)) (cases_lt k (suc n))

module _ {S : Type 0} (s : space.Ghosts S) (reopens : Files → Contents → Type 0) where
  pub hundreds_none : (a : S) (seed : ℕ) (m : Mark) → LeavesHundreds s reopens a a seed 0 m
  hundreds_none a seed m = record { leaves = record { later = omega arith; each = λ t o le l. inl l } }

  later_hundred : (seed n k : ℕ) (m : Mark) (o : Option Files) → n ≤ k → AtHundred reopens seed n m o → AtHundred reopens seed k m o
  later_hundred seed n k m o le h = record { hundreds = h.hundreds; within = omega (arith, le, h.within); reopen = h.reopen }

  pub hundreds_within : (old new : S) (seed n k : ℕ) (m : Mark) → n ≤ k → LeavesHundreds s reopens old new seed n m → LeavesHundreds s reopens old new seed k m
  hundreds_within old new seed n k m le h = record { leaves = record { later = h.leaves.later; each = λ t o before l. ⊎_elim (λ was. inl was) (λ x. inr (later_hundred seed n k m o le x)) (h.leaves.each t o before l) } }

  -- what is kept where the files stand for a mark
  kept_hundred : {B : Type 0} (holds : B → Files → Contents → Type 0) (seed n : ℕ) (run : Run) (base : B) (mid : S) (m : Mark) (o : Option Files) → run.made ≡ 100 * n → (s.tells → s.kept mid ≡ Some (s.now mid)) → Stands s holds reopens seed run base mid m → o ≡ s.kept mid → AtHundred reopens seed n m o
  kept_hundred holds seed n run base mid m o made clean st is = record {
    hundreds = n;
    within = omega arith;
    reopen = subst (λ (i : ℕ). Reopens reopens o (mark_behind i seed m)) made (record { files = s.now mid; is = is ∙ clean st.stands.has.held.0; stand = record { contents = st.stands.stand; log = st.stands.has.log } });
  }

  -- one hundred more
  pub hundred_more : {B : Type 0} (holds : B → Files → Contents → Type 0) (seed n : ℕ) (run : Run) (base : B) (old mid new : S) (m : Mark) → run.made ≡ 100 * n → (s.tells → s.kept mid ≡ Some (s.now mid))
      → Stands s holds reopens seed run base mid m → LeavesHundreds s reopens old mid seed n m → MovesTo s reopens mid new (mark_behind (run.made + 100) seed m) → LeavesHundreds s reopens old new seed (n + 1) m
  hundred_more holds seed n run base old mid new m made clean st first mv = record {
    leaves = record {
      later = omega (arith, first.leaves.later, mv.leaves.later);
      each = λ t o le l. ⊎_elim
          (λ there. ⊎_elim (λ was. inl was) (λ x. inr (later_hundred seed n (n + 1) m o (omega arith) x)) (first.leaves.each t o le there))
          (λ p. inr (⊎_elim
          (λ is. later_hundred seed n (n + 1) m o (omega arith) (kept_hundred holds seed n run base mid m o made clean st is))
          (λ r. record { hundreds = n + 1; within = omega arith; reopen = let next : run.made + 100 ≡ 100 * (n + 1) = omega arith in subst (λ (i : ℕ). Reopens reopens o (mark_behind i seed m)) next r })
          p))
          (mv.leaves.each t o (omega (arith, le, first.leaves.later)) l);
    };
  }

  -- ---- as marks of the task

  listed : (seed count : ℕ) (m : Mark) (o : Option Files) → AtHundred reopens seed (count / 100) m o → AtMark reopens o (marks_of (Drill seed count) m)
  listed seed count m o h = record { mark = mark_behind (100 * h.hundreds) seed m; listed = inr (among seed (count / 100) h.hundreds m h.within); reopen = h.reopen }

  pub hundreds_are_marks : (seed count : ℕ) (m : Mark) (old new : S) → LeavesHundreds s reopens old new seed (count / 100) m → LeavesMarks s reopens old new (marks_of (Drill seed count) m)
  hundreds_are_marks seed count m old new h = record { leaves = record { later = h.leaves.later; each = λ t o le l. ⊎_elim (λ was. inl was) (λ x. inr (listed seed count m o x)) (h.leaves.each t o le l) } }

  -- those of the hundreds and the last
  pub all_are_marks : {B : Type 0} (holds : B → Files → Contents → Type 0) (seed count : ℕ) (run : Run) (base : B) (old mid new : S) (m : Mark) → run.made ≡ 100 * (count / 100) → (s.tells → s.kept mid ≡ Some (s.now mid))
      → Stands s holds reopens seed run base mid m → LeavesHundreds s reopens old mid seed (count / 100) m → MovesTo s reopens mid new (mark_behind (run.made + count % 100) seed m) → LeavesMarks s reopens old new (marks_of (Drill seed count) m)
  all_are_marks holds seed count run base old mid new m made clean st first mv = record {
    leaves = record {
      later = omega (arith, first.leaves.later, mv.leaves.later);
      each = λ t o le l. ⊎_elim
          (λ there. ⊎_elim (λ was. inl was) (λ x. inr (listed seed count m o x)) (first.leaves.each t o le there))
          (λ p. inr (⊎_elim
          (λ is. listed seed count m o (kept_hundred holds seed (count / 100) run base mid m o made clean st is))
          (λ r. record { mark = mark_behind count seed m; listed = inl refl; reopen = let last : run.made + count % 100 ≡ count = omega arith in subst (λ (i : ℕ). Reopens reopens o (mark_behind i seed m)) last r })
          p))
          (mv.leaves.each t o (omega (arith, le, first.leaves.later)) l);
    };
  }
