-- Settling and committing, or neither.
use Rattle.std.proofs.Common.{◌≡◌, ◌⊎◌, inl, inr, ⊎_elim, ℕ, Bool, true, false, ◌∙◌, sym, subst, arith}
use Rattle.std.specs.Prelude.{Some}
use Rattle.tc_base.specs.Files.{Files}
use Rattle.tc_space.specs.Frames.{Keeps, Others}
use Rattle.tc_space.specs.Moments.{LeavesOnly}
use Rattle.tc_space.specs.declared.space.Space.{Ghosts}
use Rattle.tc_model.specs.Contents.{Contents}
use Rattle.ty_world.specs.World.{Mark}
use Rattle.ty_base.specs.Holding.{Frame, Held, IsReady, IsTrimmed, KeepsBeside, KeepsFrame, Laid, Layout, Stays, TrimsHeld, frame_of, others_beside, trimmed_keeps}
use Rattle.ty_rounds.specs.Kept.{HasMark, MovesTo}
use Rattle.ty_rounds.specs.Keeping.{IsKept, kept_frame}

module _ {S : Type 0} (s : Ghosts S) where
  pub none_moved : (reopens : Files → Contents → Type 0) (a : S) (m : Mark) → MovesTo s reopens a a m
  none_moved reopens a m = record { leaves = record { later = omega arith; each = λ t o le l. inl l } }

  pub settled_moves : (reopens : Files → Contents → Type 0) (a b : S) (m : Mark) → Keeps s a b → s.tells → MovesTo s reopens a b m
  settled_moves reopens a b m keeps t = let st = keeps.steady t in record { leaves = record { later = st.leaves.later; each = λ u o le l. ⊎_elim (λ was. inl was) (λ is. inr (inl is)) (st.leaves.each u o le l) } }

  -- the commit leaves the files as they are
  pub kept_packed : (packed : Files → Type 0) (b d : S) → ((g : ℕ) → s.now d g ≡ s.now b g) → packed (s.now b) → packed (s.now d)
  kept_packed packed b d now is = subst packed (λ i f. sym (now f) i) is

  -- what is settled: whatever was held, it is, and the files stand for it
  abbrev pub Settles : {B : Type 0} → (B → Files → Contents → Type 0) → (Files → Contents → Type 0) → B → B → S → S → Type 0
  Settles holds reopens base base' a b = (c : Contents) → Held s holds base a c → Held s holds base' b c × reopens (s.now b) c

  kept_fits : (own : ℕ → Type 0) (commits : Bool) (l k : Frame) → IsTrimmed l.layout k.layout → KeepsBeside own l.files k.files → KeepsFrame own (kept_frame commits l) k
  kept_fits own true l k trims beside = record { layout = record { numbers = record { same = trims.numbers.same; lead = trims.numbers.lead }; slack = omega (arith, trims.none) }; beside = beside }
  kept_fits own false l k trims beside = record { layout = trimmed_keeps l.layout k.layout trims; beside = beside }

  -- besides, they are laid out as files that are kept
  pub settles_laid : {B : Type 0} (holds : B → Files → Contents → Type 0) (reopens : Files → Contents → Type 0) (own : ℕ → Type 0) (layout : Files → Layout) (commits : Bool) (base base' : B) (a b : S) → Settles holds reopens base base' a b → TrimsHeld s holds layout base a b → Others s own a b
      → Settles holds (Laid own layout (kept_frame commits (frame_of layout (s.now a))) reopens) base base' a b
  settles_laid holds reopens own layout commits base base' a b settled trims others c h =
      let x = settled c h in
      (x.0, record { stand = x.1; like = kept_fits own commits (frame_of layout (s.now a)) (frame_of layout (s.now b)) (trims c h) (others_beside s own a b h.0 others) })

  pub committed_moves : {B : Type 0} (holds : B → Files → Contents → Type 0) (reopens : Files → Contents → Type 0) (base base' : B) (a b d : S) (m : Mark) → Keeps s a b → Settles holds reopens base base' a b → Stays s 2 a b
      → (s.tells → LeavesOnly s.moment s.left b d (λ o. (o ≡ s.kept b) ⊎ (o ≡ Some (s.now b)))) → HasMark s holds base a m → MovesTo s reopens a d m
  committed_moves holds reopens base base' a b d m keeps settled log commits h =
      let t = h.held.0 in
      let st = keeps.steady t in
      let cm = commits t in
      record {
        leaves = record {
          later = omega (arith, st.leaves.later, cm.later);
          each = λ u o le l. ⊎_elim
              (λ mid. ⊎_elim (λ was. inl was) (λ is. inr (inl is)) (st.leaves.each u o le mid))
              (λ p. inr (⊎_elim (λ is. inl (is ∙ st.same)) (λ is. inr (record { files = s.now b; is = is; stand = record { contents = (settled m.contents h.held).1; log = log.same t ∙ h.log } })) p))
              (cm.each u o (omega (arith, le, st.leaves.later)) l);
        };
      }

  module _ {B : Type 0} (holds : B → Files → Contents → Type 0) (reopens : Files → Contents → Type 0) where
    pub nothing_kept : (commits : Bool) (base : B) (a : S) → IsReady s holds base a → s.touched a ≡ false → commits ≡ false → IsKept s holds reopens commits base base a a
    nothing_kept commits base a is untouched none = record { ready = is; untouched = untouched; marks = λ m h stood. record { has = h; stand = stood none } }

    pub is_kept : (commits : Bool) (base base' : B) (a b d : S) → IsReady s holds base a → Settles holds reopens base base' a b → Stays s 2 a b → (s.tells → (g : ℕ) → s.now d g ≡ s.now b g) → s.sound d → s.touched d ≡ false → IsKept s holds reopens commits base base' a d
    is_kept commits base base' a b d is settled log now sound untouched = record {
      ready = record { sound = sound; held = λ t. let h = is.held t in (h.0, held_on t h.0 (settled h.0 (t, h.1)).0.1) };
      untouched = untouched;
      marks = λ m h stood. let t = h.held.0 in let x = settled m.contents h.held in record {
        has = record { held = (t, held_on t m.contents x.0.1); log = now t 2 ∙ log.same t ∙ h.log };
        stand = subst (λ (files : Files). reopens files m.contents) (λ i f. sym (now t f) i) x.1;
      };
    }
      where
        held_on : s.tells → (c : Contents) → holds base' (s.now b) c → holds base' (s.now d) c
        held_on t c h = subst (λ (files : Files). holds base' files c) (λ i f. sym (now t f) i) h
