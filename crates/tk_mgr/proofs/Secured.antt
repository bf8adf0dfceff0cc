-- Requests of a drill that were kept.
use Rattle.std.proofs.Common.{◌≡◌, ◌+◌, ℕ, true, false, refl, subst, ◌∙◌, inl, inr, ⊎_elim, arith}
use Rattle.tc_base.specs.Files.{Files}
use Rattle.tc_space.specs.Frames.{Keeps}
use Rattle.tc_space.specs.declared.space.Space as space
use Rattle.tc_model.specs.Contents.{Contents}
use Rattle.ty_world.specs.World.{Mark}
use Rattle.ty_base.specs.Holding.{Frame, Laid, Layout, Leaves, leaves_less}
use Rattle.ty_rounds.specs.Keeping.{IsKept, IsKeptLaid, MovesLaid}
use Rattle.ty_rounds.specs.Kept.{HasMark, MovesTo}
use Rattle.ty_rounds.proofs.Keeping.{settled_moves}
use Rattle.ty_rounds.proofs.Laying.{kept_like, moves_like}
use Rattle.tk_mgr.specs.Drilling.{Holds, Makes, MovesBy, Secures, Stands, StandsOn, mark_behind}
use Rattle.tk_mgr.specs.Managing.{FillsTask, MayManage}
use Rattle.tk_mgr.specs.declared.run.Run.{Run}
use Rattle.tk_mgr.specs.declared.task.Task.TheVariants.{Drill}
use Rattle.tk_mgr.proofs.Steps.{fills_still}

module _ {S B : Type 0} (s : space.Ghosts S) (holds : B → Files → Contents → Type 0) (reopens : Files → Contents → Type 0) where
  moves_behind : (more : ℕ) (run run' : Run) (base mid_base : B) (old mid new : S) → Makes s holds more run run' base mid_base old mid → Keeps s old mid → ((m : Mark) → HasMark s holds mid_base mid m → MovesTo s reopens mid new m) → (seed : ℕ) (m : Mark) → Stands s holds reopens seed run base old m
      → MovesTo s reopens old new (mark_behind (run.made + more) seed m)
  moves_behind more run run' base mid_base old mid new makes keeps moves seed m st =
      let h = makes.each seed m (record { counts = st.counts; has = st.stands.has }) in
      let steady = keeps.steady st.stands.has.held.0 in
      let mv = subst (λ (n : ℕ). MovesTo s reopens mid new (mark_behind n seed m)) makes.made (moves (mark_behind run'.made seed m) h.has) in
      record {
        leaves = record {
          later = omega (arith, steady.leaves.later, mv.leaves.later);
          each = λ t o le l. ⊎_elim
              (λ there. ⊎_elim (λ was. inl was) (λ is. inr (inl is)) (steady.leaves.each t o le there))
              (λ p. inr (⊎_elim (λ is. inl (is ∙ steady.same)) (λ r. inr r) p))
              (mv.leaves.each t o (omega (arith, le, steady.leaves.later)) l);
        };
      }

module _ {S B : Type 0} (s : space.Ghosts S) (holds : B → Files → Contents → Type 0) (reopens : Files → Contents → Type 0) where
  pub stands_hold : (seed : ℕ) (run : Run) (base : B) (a : S) (m : Mark) → Stands s holds reopens seed run base a m → Holds s holds seed run base a m
  stands_hold seed run base a m st = record { counts = st.counts; has = st.stands.has }

  -- ---- some requests, and a commit

  module _ (more : ℕ) (run run' : Run) (base mid_base base' : B) (old mid new : S) (makes : Makes s holds more run run' base mid_base old mid) where
    pub secured : IsKept s holds reopens true mid_base base' mid new → Secures s holds reopens more run run' base base' old new
    secured kept = record {
      made = makes.made;
      may = record {
        sound = kept.ready.sound;
        untouched = kept.untouched;
        stands = λ t. let h = makes.ready.held t in let is = kept.marks (record { contents = h.0; log = s.now mid 2 }) (record { held = (t, h.1); log = refl }) (λ e. absurd cc) in (h.0, is.has.held.1, is.stand);
      };
      each = λ seed m st. let h = makes.each seed m (stands_hold seed run base old m st) in record { counts = h.counts; stands = kept.marks (mark_behind run'.made seed m) h.has (λ e. absurd cc) };
    }

    -- what a stop leaves
    pub secured_moves : Keeps s old mid → ((m : Mark) → HasMark s holds mid_base mid m → MovesTo s reopens mid new m) → (seed : ℕ) (m : Mark) → Stands s holds reopens seed run base old m → MovesTo s reopens old new (mark_behind (run.made + more) seed m)
    secured_moves keeps moves = moves_behind s holds reopens more run run' base mid_base old mid new makes keeps moves

    module _ (own : ℕ → Type 0) (layout : Files → Layout) (l : Frame) (leaves : Leaves s own layout ⊥ old mid) where
      behind : Leaves s own layout (true ≡ false) old mid
      behind = leaves_less s own layout ⊥ (true ≡ false) old mid (λ e. absurd cc) leaves

      -- laid out like what was there
      pub secured_like : IsKeptLaid s holds reopens own layout true mid_base base' mid new → StandsOn s holds (Laid own layout l reopens) run run' base base' old new
      secured_like kept seed m st =
          let h = makes.each seed m (record { counts = st.counts; has = st.stands.has }) in
          let k = kept_like s own layout holds reopens l true mid_base base' old mid new st.stands.stand.like behind kept in
          record { counts = h.counts; stands = k.marks (mark_behind run'.made seed m) h.has (λ e. absurd cc) }

    -- a limit was reached as it was settled
    pub secured_fills : (log_is_full : Type 0) (fills : Contents → Contents → Type 0) (lacks_large : Contents → Type 0) → (s.tells → log_is_full) → (seed : ℕ) (m : Mark) → Stands s holds reopens seed run base old m → FillsTask log_is_full fills lacks_large (Drill seed (run.made + more)) m.contents
    secured_fills log_is_full fills lacks_large full seed m st = fills_still log_is_full fills lacks_large seed run'.made (run.made + more) m.contents (omega (arith, makes.made)) (full st.stands.has.held.0)

  -- what a stop leaves is laid out like what was there
  pub moved_like : (more : ℕ) (run run' : Run) (base mid_base : B) (old mid new : S) (own : ℕ → Type 0) (layout : Files → Layout) (l : Frame) → Makes s holds more run run' base mid_base old mid → Keeps s old mid → Leaves s own layout ⊥ old mid → MovesLaid s holds reopens own layout true mid_base mid new
      → MovesBy s holds (Laid own layout l reopens) more run base old new
  moved_like more run run' base mid_base old mid new own layout l makes keeps leaves moves seed m st =
      let behind = leaves_less s own layout ⊥ (true ≡ false) old mid (λ e. absurd cc) leaves in
      let like = moves_like s own layout holds reopens l true mid_base old mid new st.stands.stand.like behind moves in
      moves_behind s holds (Laid own layout l reopens) more run run' base mid_base old mid new makes keeps like seed m st

  pub unmade_moves : (more : ℕ) (run : Run) (base : B) (old new : S) → Keeps s old new → (seed : ℕ) (m : Mark) → Stands s holds reopens seed run base old m → MovesTo s reopens old new (mark_behind (run.made + more) seed m)
  unmade_moves more run base old new keeps seed m st = settled_moves s reopens old new (mark_behind (run.made + more) seed m) keeps st.stands.has.held.0

  -- ---- one behind another

  pub secures_none : (run : Run) (base : B) (a : S) → MayManage s holds reopens base a → Secures s holds reopens 0 run run base base a a
  secures_none run base a may = record { made = omega arith; may = may; each = λ seed m st. st }

  pub secures_then : (j k n : ℕ) (run run' run'' : Run) (base base' base'' : B) (a b d : S) → j + k ≡ n → Secures s holds reopens j run run' base base' a b → Secures s holds reopens k run' run'' base' base'' b d → Secures s holds reopens n run run'' base base'' a d
  secures_then j k n run run' run'' base base' base'' a b d is first second = record { made = omega (arith, is, first.made, second.made); may = second.may; each = λ seed m st. second.each seed m (first.each seed m st) }

  pub secures_as : (j k : ℕ) (run run' : Run) (base base' : B) (a b : S) → j ≡ k → Secures s holds reopens j run run' base base' a b → Secures s holds reopens k run run' base base' a b
  secures_as j k run run' base base' a b is secures = subst (λ (n : ℕ). Secures s holds reopens n run run' base base' a b) is secures
