-- What a stop leaves of a turn.
use Rattle.std.proofs.Common.{◌≡◌, ◌⊎◌, ◌≤◌, inl, inr, ⊎_elim, ℕ, List, true, ap, sym, ◌∙◌, arith}
use Rattle.std.specs.Prelude.{Option, Some, None}
use Rattle.tc_base.specs.Files.{Files}
use Rattle.tc_space.specs.Moments.{LeavesOnly, Steady}
use Rattle.tc_space.specs.declared.space.Space.{Ghosts}
use Rattle.tc_model.specs.Contents.{Contents}
use Rattle.ty_world.specs.World.{Mark}
use Rattle.ty_ulog.specs.Log.{IsLog}
use Rattle.ty_rounds.specs.Books.{Book, IsBook}
use Rattle.ty_rounds.specs.Kept.{Reopens, HoldsMark, LeavesTwo, MovesTo}
use Rattle.ty_rounds.specs.declared.logging.Logged.{Logged}

-- where an update log is kept, it is one
pub book_log : (l : Option Logged) (b : Book) (file : List ℕ) → IsBook l b file → b.is.logs ≡ true → IsLog file b.records
book_log None b file bk on = absurd (let e = sym (ap (λ is. is.logs) bk.is_same) ∙ on in cc)
book_log (Some x) b file bk on = bk.holds.log

module _ {S : Type 0} (s : Ghosts S) where
  -- where nothing was written since the last commit, a stop leaves the files now
  pub record IsClean (a : S) : Type 0 where
    pub sound : s.sound a
    pub only : (o : Option Files) → s.tells → s.left a (s.moment a) o → o ≡ s.kept a
    pub clean : s.tells → s.kept a ≡ Some (s.now a)

  abbrev pub Earlier : S → Type 0
  Earlier a = (t u : ℕ) (o : Option Files) → t ≤ u → s.left a u o → s.left a t o

  -- ---- whatever it leaves

  -- nothing was done
  pub none_left : (P : Option Files → Type 0) (a : S) → LeavesOnly s.moment s.left a a P
  none_left P a = record { later = omega arith; each = λ t o le l. inl l }

  -- nothing was kept since
  pub then_kept : (P : Option Files → Type 0) (a b e : S) → ((o : Option Files) → o ≡ s.kept b → P o) → LeavesOnly s.moment s.left a b P → Steady s.moment s.files_at s.left s.kept b e → LeavesOnly s.moment s.left a e P
  then_kept P a b e k x st = record {
    later = omega (arith, x.later, st.leaves.later);
    each = λ t o le l. ⊎_elim (λ was. x.each t o le was) (λ is. inr (k o is)) (st.leaves.each t o (omega (arith, le, x.later)) l);
  }

  -- in a wider sense
  pub left_wider : (P Q : Option Files → Type 0) (a b : S) → ((o : Option Files) → P o → Q o) → LeavesOnly s.moment s.left a b P → LeavesOnly s.moment s.left a b Q
  left_wider P Q a b wider x = record { later = x.later; each = λ t o le l. ⊎_elim (λ was. inl was) (λ p. inr (wider o p)) (x.each t o le l) }

  module _ (reopens : Files → Contents → Type 0) where
    pub kept_stands : {B : Type 0} (holds : B → Files → Contents → Type 0) (base : B) (a : S) (m : Mark) → IsClean a → HoldsMark s holds reopens base a m → Reopens reopens (s.kept a) m
    kept_stands holds base a m is h = record { files = s.now a; is = is.clean h.has.held.0; stand = record { contents = h.stand; log = h.has.log } }

    -- as kept
    pub was_kept : (a : S) (o : Option Files) (m : Mark) → Reopens reopens (s.kept a) m → o ≡ s.kept a → Reopens reopens o m
    was_kept a o m k is = record { files = k.files; is = is ∙ k.is; stand = k.stand }

    -- at the exit
    pub left_stands : {B : Type 0} (holds : B → Files → Contents → Type 0) (base : B) (a : S) (m : Mark) → IsClean a → HoldsMark s holds reopens base a m → (o : Option Files) → s.left a (s.moment a) o → Reopens reopens o m
    left_stands holds base a m is h o l = was_kept a o m (kept_stands holds base a m is h) (is.only o h.has.held.0 l)

    pub none_two : (a : S) (m n : Mark) → LeavesTwo s reopens a a m n
    none_two a m n = record { leaves = record { later = omega arith; each = λ t o le l. inl l } }

    pub steady_two : (a b : S) (m n : Mark) → Reopens reopens (s.kept a) m → Steady s.moment s.files_at s.left s.kept a b → LeavesTwo s reopens a b m n
    steady_two a b m n k st = record { leaves = record { later = st.leaves.later; each = λ t o le l. ⊎_elim (λ was. inl was) (λ is. inr (inl (was_kept a o m k is))) (st.leaves.each t o le l) } }

    -- as kept, or what a commit behind it leaves
    pub moved_or : (Q : Option Files → Type 0) (a b e : S) (m : Mark) → Reopens reopens (s.kept a) m → Steady s.moment s.files_at s.left s.kept a b → LeavesOnly s.moment s.left b e (λ o. (o ≡ s.kept b) ⊎ Q o) → LeavesOnly s.moment s.left a e (λ o. Reopens reopens o m ⊎ Q o)
    moved_or Q a b e m k st mv = record {
      later = omega (arith, st.leaves.later, mv.later);
      each = λ t o le l. ⊎_elim (λ mid. ⊎_elim (λ was. inl was) (λ is. inr (inl (was_kept a o m k is))) (st.leaves.each t o le mid)) (λ p. inr (⊎_elim (λ is. inl (was_kept a o m k (is ∙ st.same))) (λ r. inr r) p)) (mv.each t o (omega (arith, le, st.leaves.later)) l);
    }

    pub moved_two : (a b e : S) (m n : Mark) → Reopens reopens (s.kept a) m → Steady s.moment s.files_at s.left s.kept a b → MovesTo s reopens b e n → LeavesTwo s reopens a e m n
    moved_two a b e m n k st mv = record { leaves = moved_or (λ o. Reopens reopens o n) a b e m k st mv.leaves }

    -- what only keeps behind it leaves no more
    pub kept_or : (Q : Option Files → Type 0) (a b e : S) (m : Mark) → ((o : Option Files) → o ≡ s.kept b → Q o) → Steady s.moment s.files_at s.left s.kept b e → LeavesOnly s.moment s.left a b (λ o. Reopens reopens o m ⊎ Q o) → LeavesOnly s.moment s.left a e (λ o. Reopens reopens o m ⊎ Q o)
    kept_or Q a b e m k st x = record {
      later = omega (arith, x.later, st.leaves.later);
      each = λ t o le l. ⊎_elim (λ was. x.each t o le was) (λ is. inr (inr (k o is))) (st.leaves.each t o (omega (arith, le, x.later)) l);
    }

    pub or_exit : (Q : Option Files → Type 0) (a b : S) (m : Mark) → ((o : Option Files) → s.left a (s.moment a) o → o ≡ s.kept a) → Earlier b → Reopens reopens (s.kept a) m → LeavesOnly s.moment s.left a b (λ o. Reopens reopens o m ⊎ Q o) → (o : Option Files) → s.left b (s.moment b) o → Q o ⊎ Reopens reopens o m
    or_exit Q a b m only earlier k x o l = ⊎_elim (λ was. inr (was_kept a o m k (only o was))) (λ p. ⊎_elim (λ r. inr r) (λ q. inl q) p) (x.each (s.moment a) o (omega arith) (earlier (s.moment a) (s.moment b) o x.later l))

    -- a stop that comes before anything is kept leaves what was
    pub steady_exit : (a b : S) (m : Mark) → ((o : Option Files) → s.left a (s.moment a) o → o ≡ s.kept a) → Earlier b → Reopens reopens (s.kept a) m → Steady s.moment s.files_at s.left s.kept a b → (o : Option Files) → s.left b (s.moment b) o → Reopens reopens o m
    steady_exit a b m only earlier k st o l = ⊎_elim (λ was. was_kept a o m k (only o was)) (λ is. was_kept a o m k is) (st.leaves.each (s.moment a) o (omega arith) (earlier (s.moment a) (s.moment b) o st.leaves.later l))
