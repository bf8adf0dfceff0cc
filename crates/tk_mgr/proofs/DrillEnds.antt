-- How a drill begins, and how it ends.
use Rattle.std.proofs.Common.{◌≡◌, ◌+◌, ◌*◌, ◌/◌, ◌%◌, ℕ, true, List, [], refl, sym, ap, subst, ◌∙◌, inl, inr, ⊎_elim, arith, Ok, Err}
use Rattle.std.specs.Prelude.{Option}
use Rattle.std.proofs.lemmas.List.{append-nil}
use Rattle.tc_base.specs.Files.{Files}
use Rattle.tc_io.specs.Told.{Adds, AddsFront}
use Rattle.tc_io.specs.declared.sink.Sink as sink
use Rattle.tc_space.specs.declared.space.Space as space
use Rattle.tc_model.specs.Contents.{Contents}
use Rattle.ty_world.specs.World.{Mark}
use Rattle.ty_rounds.specs.Kept.{HoldsMark, LeavesMarks, Reopens}
use Rattle.ty_rounds.proofs.Leaving.{IsClean, left_stands}
use Rattle.ty_rounds.proofs.Telling.{Adds-none}
use Rattle.tk_mgr.specs.Drilling.{Stands, Tells, mark_behind}
use Rattle.tk_mgr.specs.Drills.{drilled, summary}
use Rattle.tk_mgr.specs.Managing.{IsThrough, Manages, last_mark, marks_of}
use Rattle.tk_mgr.specs.Tasks.{text_of}
use Rattle.tk_mgr.specs.declared.errors.MgrErr.{MgrErr}
use Rattle.tk_mgr.specs.declared.errors.MgrErr.TheVariants as err
use Rattle.tk_mgr.specs.declared.run.Run.{Run}
use Rattle.tk_mgr.specs.declared.task.Task.TheVariants.{Drill}
use Rattle.tk_mgr.proofs.Secured.{stands_hold}

none_drawn : (n seed : ℕ) (c : Contents) → n ≡ 0 → (seed ≡ (drilled n seed c).drawn_last) × (0 ≡ (drilled n seed c).accepted)
unfolding drilled
none_drawn n seed c is = (sym (ap (λ (k : ℕ). (drilled k seed c).drawn_last) is), sym (ap (λ (k : ℕ). (drilled k seed c).accepted) is))

none_made : (n seed : ℕ) (m : Mark) → n ≡ 0 → m ≡ mark_behind n seed m
unfolding drilled
none_made n seed m is = sym (ap (λ (k : ℕ). mark_behind k seed m) is)

module _ {S B : Type 0} (s : space.Ghosts S) (holds : B → Files → Contents → Type 0) (reopens : Files → Contents → Type 0) where
  pub begun : (seed : ℕ) (run : Run) (base : B) (a : S) (m : Mark) → run.drawn ≡ seed → run.made ≡ 0 → run.accepted ≡ 0 → HoldsMark s holds reopens base a m → Stands s holds reopens seed run base a m
  begun seed run base a m drew made accepted h = record {
    counts = let z = none_drawn run.made seed m.contents made in record { drawn = drew ∙ z.0; accepted = accepted ∙ z.1 };
    stands = subst (λ (n : Mark). HoldsMark s holds reopens base a n) (none_made run.made seed m made) h;
  }

  -- the text is that of the task
  pub all_told : (seed count : ℕ) (run : Run) (base : B) (a : S) (text : List ℕ) (m : Mark) → run.made ≡ 100 * (count / 100) → Tells s holds run (run.made + count % 100) base a text → Stands s holds reopens seed run base a m → text ≡ text_of (Drill seed count) m.contents
  all_told seed count run base a text m made tells st =
      let all : run.made + count % 100 ≡ count = omega arith in
      subst (λ (n : ℕ). text ≡ summary n (drilled n seed m.contents)) all (tells.each seed m (stands_hold s holds reopens seed run base a m st))

  -- what a stop leaves once it is kept
  pub last_left : (seed count : ℕ) (run run' : Run) (base' : B) (new : S) (m : Mark) → run.made ≡ 100 * (count / 100) → run'.made ≡ run.made + count % 100 → IsClean s new → Stands s holds reopens seed run' base' new m
      → (o : Option Files) → s.left new (s.moment new) o → Reopens reopens o (last_mark (Drill seed count) m)
  last_left seed count run run' base' new m made more clean there o l =
      let all : run'.made ≡ count = omega (arith, made, more) in
      subst (λ (n : ℕ). Reopens reopens o (mark_behind n seed m)) all (left_stands s reopens holds base' new (mark_behind run'.made seed m) clean there.stands o l)

-- ---- what it leaves, and what it prints

-- another error than that of the sink
pub not_through : (e : MgrErr) → (e ≡ err.Sink → ⊥) → IsThrough (Err e) → ⊥
not_through err.Full none through = through
not_through err.Fault none through = through
not_through err.Sink none through = none refl
not_through err.Memory none through = through

module _ {S B O : Type 0} (s : space.Ghosts S) (g : sink.Ghosts O) (holds : B → Files → Contents → Type 0) (reopens : Files → Contents → Type 0) (lines : Files → List ℕ → Type 0) (seed count : ℕ) (base : B) (old new : S)
    (marks : (m : Mark) → HoldsMark s holds reopens base old m → LeavesMarks s reopens old new (marks_of (Drill seed count) m)) where
  -- it wasn't carried out
  pub failed : (e : MgrErr) (p : O) → (IsThrough (Err e) → ⊥) → Manages s g holds reopens lines (Drill seed count) (Err e) base old new p p
  failed e p not = record {
    taken = [];
    told = Adds-none (g.taken p);
    none = λ is. absurd cc;
    by = λ m h. record {
      ok = λ b is. absurd cc;
      printed = inl refl;
      whole = λ is. absurd cc;
      moments = marks m h;
      last = λ x. absurd (⊎_elim (λ through. not through) (λ some. some refl) x);
    };
  }

  module _ (text : List ℕ) (is_text : (m : Mark) → HoldsMark s holds reopens base old m → text ≡ text_of (Drill seed count) m.contents)
      (last : (m : Mark) → HoldsMark s holds reopens base old m → (o : Option Files) → s.left new (s.moment new) o → Reopens reopens o (last_mark (Drill seed count) m)) where
    pub printed : (p q : O) → Adds (g.taken p) (g.taken q) text → Manages s g holds reopens lines (Drill seed count) (Ok true) base old new p q
    printed p q adds = record {
      taken = text;
      told = adds;
      none = λ is. absurd cc;
      by = λ m h. record {
        ok = λ b is. cc;
        printed = inr (record { ok = refl; text = text; prints = is_text m h; front = ([], sym (append-nil text)) });
        whole = λ is. is_text m h;
        moments = marks m h;
        last = λ x o l. last m h o l;
      };
    }

    -- a front of the text was taken
    pub cut_off : (p q : O) → AddsFront (g.taken p) (g.taken q) text → Manages s g holds reopens lines (Drill seed count) (Err err.Sink) base old new p q
    cut_off p q adds = record {
      taken = adds.front;
      told = adds.told;
      none = λ is. absurd cc;
      by = λ m h. record {
        ok = λ b is. absurd cc;
        printed = inr (record { ok = refl; text = text; prints = is_text m h; front = (adds.back, adds.parts) });
        whole = λ is. absurd cc;
        moments = marks m h;
        last = λ x o l. last m h o l;
      };
    }
