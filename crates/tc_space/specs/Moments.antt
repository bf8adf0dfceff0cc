-- What stops leave at the moments since one.
use Rattle.std.specs.Prelude.{◌≡◌, ◌⊎◌, ℕ, ◌≤◌, List, if◌then◌else◌, ◌==◌, Option}
use Rattle.std.proofs.Common.{◌∙◌, ◌≢◌, inl, inr, ⊎_elim, arith, refl, sym, subst}
use Rattle.std.proofs.lemmas.Bool.{cases_eq}
use Rattle.std.proofs.lemmas.Bool.Decides.{nat_tests}
use Rattle.tc_base.specs.Files.{Files}

-- the files with one of them changed
unfoldable pub with_file : ℕ → List ℕ → Files → Files
with_file file bytes files = λ g. if g == file then bytes else files g

-- at each moment since old a stop leaves what has P, where none stands for files that can't be recovered
pub record LeavesOnly {S : Type 0} (moment : S → ℕ) (left : S → ℕ → Option Files → Type 0) (old new : S) (P : Option Files → Type 0) : Type 0 where
  pub later : moment old ≤ moment new
  pub each : (t : ℕ) (o : Option Files) → t ≤ moment old → left new t o → left old t o ⊎ P o

-- the moments that were stay, with the files as they were at each
pub record Past {S : Type 0} (moment : S → ℕ) (files_at : S → ℕ → Files) (old new : S) : Type 0 where
  pub later : moment old ≤ moment new
  pub same : (t : ℕ) → t ≤ moment old → files_at new t ≡ files_at old t

module _ {S : Type 0} (moment : S → ℕ) (files_at : S → ℕ → Files) where
  pub past_refl : (a : S) → Past moment files_at a a
  past_refl a = record { later = omega arith; same = λ t le. refl }

  pub past_then : (a b c : S) → Past moment files_at a b → Past moment files_at b c → Past moment files_at a c
  past_then a b c first second = record { later = omega (arith, first.later, second.later); same = λ t le. second.same t (omega (arith, le, first.later)) ∙ first.same t le }

-- what is kept stays, and a stop leaves nothing else; so does what was
pub record Steady {S : Type 0} (moment : S → ℕ) (files_at : S → ℕ → Files) (left : S → ℕ → Option Files → Type 0) (kept : S → Option Files) (old new : S) : Type 0 where
  pub same : kept new ≡ kept old
  pub leaves : LeavesOnly moment left old new (λ o. o ≡ kept old)
  pub past : Past moment files_at old new

module _ {S : Type 0} (moment : S → ℕ) (left : S → ℕ → Option Files → Type 0) where
  pub leaves_then : (P Q : Option Files → Type 0) (a b c : S) → ((o : Option Files) → P o → Q o) → LeavesOnly moment left a b Q → LeavesOnly moment left b c P → LeavesOnly moment left a c Q
  leaves_then P Q a b c weaker first second = record {
    later = omega (arith, first.later, second.later);
    each = λ t o le l. ⊎_elim (λ m. first.each t o le m) (λ is. inr (weaker o is)) (second.each t o (omega (arith, le, first.later)) l);
  }

  module _ (files_at : S → ℕ → Files) (kept : S → Option Files) where
    pub steady_refl : (a : S) → Steady moment files_at left kept a a
    steady_refl a = record { same = refl; leaves = record { later = omega arith; each = λ t o le l. inl l }; past = past_refl moment files_at a }

    pub steady_then : (a b c : S) → Steady moment files_at left kept a b → Steady moment files_at left kept b c → Steady moment files_at left kept a c
    steady_then a b c first second = record {
      same = second.same ∙ first.same;
      leaves = leaves_then (λ o. o ≡ kept b) (λ o. o ≡ kept a) a b c (λ o is. is ∙ first.same) first.leaves second.leaves;
      past = past_then moment files_at a b c first.past second.past;
    }

pub with_same : (f : ℕ) (bytes : List ℕ) (files : Files) → with_file f bytes files f ≡ bytes
unfolding with_file
with_same f bytes files = grind (arith, nat_tests)

pub with_other : (f : ℕ) (bytes : List ℕ) (files : Files) (g : ℕ) → g ≢ f → with_file f bytes files g ≡ files g
unfolding with_file
with_other f bytes files g apart = grind (arith, nat_tests)

pub with_twice : (f : ℕ) (a b : List ℕ) (files : Files) → with_file f b (with_file f a files) ≡ with_file f b files
with_twice f a b files = λ i g. each g (cases_eq g f) i
  where
    each : (g : ℕ) → (g ≡ f) ⊎ (g ≡ f → ⊥) → with_file f b (with_file f a files) g ≡ with_file f b files g
    each g (inl is) = subst (λ h. with_file f b (with_file f a files) h ≡ with_file f b files h) (sym is) (with_same f b (with_file f a files) ∙ sym (with_same f b files))
    each g (inr other) = with_other f b (with_file f a files) g other ∙ with_other f a files g other ∙ sym (with_other f b files g other)
