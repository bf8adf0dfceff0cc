-- Why a run ended as it did.
use Rattle.std.specs.Prelude.{◌≤◌, ℕ}
use Rattle.tc_io.specs.Causes.{Rose}
use Rattle.tc_space.specs.Frames.{Follows}
use Rattle.tc_space.specs.declared.space.Space as space
use Rattle.ty_rounds.specs.Following.{FollowsTold}
use Rattle.tk_top.specs.declared.ends.End.{End}
use Rattle.tk_top.specs.declared.ends.End.TheVariants.{Done, Words, Refused, VolumeFault, Broken, NoMemory, Full, WireFault, TurnsSpent}

-- a fault comes only where the volume's count of faults rose, or the wire's
abbrev pub Caused : End → ℕ → ℕ → ℕ → ℕ → Type 0
Caused Done vol vol' wire wire' = Unit {0}
Caused Words vol vol' wire wire' = Unit {0}
Caused Refused vol vol' wire wire' = Unit {0}
Caused VolumeFault vol vol' wire wire' = Rose vol vol'
Caused (Broken file rule) vol vol' wire wire' = Unit {0}
Caused NoMemory vol vol' wire wire' = Unit {0}
Caused Full vol vol' wire wire' = Unit {0}
Caused WireFault vol vol' wire wire' = Rose wire wire'
Caused TurnsSpent vol vol' wire wire' = Unit {0}

-- of a space or a volume and of a wire or a sink, which count the faults of their calls
abbrev pub CausedIn : {S W : Type 0} → (S → ℕ) → (W → ℕ) → End → S → S → W → W → Type 0
CausedIn faults others end old new x y = Caused end (faults old) (faults new) (others x) (others y)

-- of a space or a volume alone
abbrev pub CausedByVolume : {S : Type 0} → (S → ℕ) → End → S → S → Type 0
CausedByVolume faults end old new = (count count' : ℕ) → Caused end (faults old) (faults new) count count'

-- of a wire or a sink alone
abbrev pub CausedByWire : {W : Type 0} → (W → ℕ) → End → W → W → Type 0
CausedByWire faults end x y = (count count' : ℕ) → Caused end count count' (faults x) (faults y)

-- of a run over a space, with a wire or a sink: the space follows the one that it was, no count of faults falls, and a fault has its cause
pub record IsAccounted {S W : Type 0} (s : space.Ghosts S) (faults : W → ℕ) (end : End) (old new : S) (x y : W) : Type 0 where
  pub follows : Follows s old new
  pub later : faults x ≤ faults y
  pub caused : CausedIn s.faults faults end old new x y

-- the same of one that serves, which may make copies: no file of the database is named anew
pub record IsServedFor {S W : Type 0} (s : space.Ghosts S) (faults : W → ℕ) (end : End) (old new : S) (x y : W) : Type 0 where
  pub follows : FollowsTold s old new
  pub later : faults x ≤ faults y
  pub caused : CausedIn s.faults faults end old new x y
