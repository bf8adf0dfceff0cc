-- The copies that are made behind the commit of a round.
use Rattle.std.specs.Prelude.{◌≡◌, ◌⊎◌, ℕ, ◌≤◌, List, [], ◌∷◌, length}
use Rattle.tc_base.specs.Files.{Files}
use Rattle.tc_io.specs.Copies.{CopyMoments, IsCopied, Named}
use Rattle.tc_io.specs.Images.{Calls, ImagesSince}
use Rattle.tc_space.specs.Moments.{Steady}
use Rattle.tc_space.specs.declared.space.Space.{Ghosts}

abbrev pub IsAmong : List ℕ → List (List ℕ) → Type 0
IsAmong l [] = ⊥
IsAmong l (m ∷ ms) = (l ≡ m) ⊎ IsAmong l ms

-- copies of these files under these labels, one after the other: a stop at any moment leaves of each what may be left of it, and all others stay
pub record RoundCopies (kept : Files) (labels : List (List ℕ)) (old new : Named) : Type 0 where
  pub told : new.told ≡ old.told
  pub moments : (l : List ℕ) → CopyMoments kept (old.copies l) (new.copies l)
  pub others : (l : List ℕ) → (IsAmong l labels → ⊥) → new.copies l ≡ old.copies l

-- each of them is the files
pub record AreMade (kept : Files) (labels : List (List ℕ)) (new : Named) : Type 0 where
  pub each : (l : List ℕ) → IsAmong l labels → IsCopied kept (new.copies l)

-- besides, nothing is written, and the space may be used as before
pub record OnlyCopies {S : Type 0} (s : Ghosts S) (old new : S) : Type 0 where
  pub steady : s.tells → Steady s.moment s.files_at s.left s.kept old new
  pub files : s.tells → (g : ℕ) → s.now new g ≡ s.now old g
  pub told : (s.names new).told ≡ (s.names old).told
  pub same_limit : s.limit new ≡ s.limit old
  pub later : s.faults old ≤ s.faults new
  pub touched : s.touched new ≡ s.touched old
  pub sound : s.sound new

-- ---- over many rounds

-- at each moment since then a stop leaves of a copy what one left before, or what has P
pub record CopyLeaves (P : Files → Type 0) (old new : Calls) : Type 0 where
  pub later : length old ≤ length new
  pub each : (t : ℕ) (ims : Files) → t ≤ length old → ImagesSince new t ims → ImagesSince old t ims ⊎ P ims
