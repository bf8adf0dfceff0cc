-- A space with nothing to commit.
use Rattle.std.proofs.Common.{◌≡◌, ◌≤◌, ◌∙◌, ⊎_elim, ℕ, false, arith}
use Rattle.std.specs.Prelude.{Option, Some}
use Rattle.tc_base.specs.Files.{Files}
use Rattle.tc_space.specs.Moments.{Steady}
use Rattle.tc_space.specs.declared.space.Space as space

-- a stop leaves the kept files, and those are the files now
abbrev pub Fresh : {S : Type 0} → space.Ghosts S → S → Type 0
Fresh s a = s.tells → ((o : Option Files) → s.left a (s.moment a) o → o ≡ s.kept a) × (s.kept a ≡ Some (s.now a))

-- by the laws of a space
pub fresh : {S : Type 0} (s : space.Ghosts S) (a : S) → ((b : S) (o : Option Files) → s.tells → s.sound b → s.left b (s.moment b) o → o ≡ s.kept b) → ((b : S) → s.tells → s.sound b → s.touched b ≡ false → s.kept b ≡ Some (s.now b)) → s.sound a → s.touched a ≡ false → Fresh s a
fresh s a only_kept clean sound untouched = λ t. (λ o left. only_kept a o t sound left, clean a t sound untouched)

-- what is left from a later moment on is left from an earlier one on
abbrev pub Earlier : {S : Type 0} → space.Ghosts S → S → Type 0
Earlier s a = (t u : ℕ) (o : Option Files) → t ≤ u → s.left a u o → s.left a t o

-- where it was only read since, or nothing was committed, a stop leaves the files then
pub still_left : {S : Type 0} (s : space.Ghosts S) (a b : S) (o : Option Files) → Fresh s a → Earlier s b → s.tells → Steady s.moment s.files_at s.left s.kept a b → s.left b (s.moment b) o → o ≡ Some (s.now a)
still_left s a b o fresh earlier t st l =
    let f = fresh t in
    ⊎_elim (λ was. f.0 o was) (λ is. is) (st.leaves.each (s.moment a) o (omega arith) (earlier (s.moment a) (s.moment b) o st.leaves.later l)) ∙ f.1
