-- The space below, and what was held over it, at earlier moments.
use Rattle.std.specs.Prelude.{◌≡◌, ℕ, suc, ◌+◌, ◌≤◌, min, List, [], ◌∷◌, length, Bool, true, false, nat_lt, if◌then◌else◌, Option, All}
use Rattle.tc_base.specs.Files.{Files}
use Rattle.tc_space.specs.declared.space.Space.{Ghosts}
use Rattle.ud_state.specs.State.{AreLens}
use Rattle.tc_held.specs.Held.{IsBare, IsHeld, over}
use Rattle.tc_held.specs.declared.held.Held.{Held}

-- moments go on from those of the space below: so many, and one for each call that was told
abbrev pub moment_in : {S : Type 0} → Ghosts S → List (S × Held) → S → ℕ
moment_in s past below = s.moment below + length past

-- the first of some that were told, the first of them in the call with this number, that stood at a moment or later; or the last
abbrev pub stood_from : {S : Type 0} → Ghosts S → ℕ → List (S × Held) → S × Held → ℕ → S × Held
stood_from s n [] last t = last
stood_from s n (q ∷ qs) last t = if nat_lt (s.moment q.0 + n) t then stood_from s (suc n) qs last t else q

-- both as they stood at a moment; from the present one on, as they are now
abbrev pub stood_at : {S : Type 0} → Ghosts S → List (S × Held) → S → Held → ℕ → S × Held
stood_at s past below held t = if nat_lt t (moment_in s past below) then stood_from s 0 past (below, held) t else (below, held)

-- the files at a moment: those of the space below when it stood so, with what was held over them
abbrev pub files_in : {S : Type 0} → Ghosts S → List (S × Held) → S → Held → ℕ → Files
files_in s past below held t = over (stood_at s past below held t).1 (s.files_at below (s.moment (stood_at s past below held t).0))

-- what a stop leaves at some moment from that one on: what one leaves of the space below, from there on or from as it stood then
pub record LeftFrom {S : Type 0} (s : Ghosts S) (past : List (S × Held)) (below : S) (held : Held) (t : ℕ) (o : Option Files) : Type 0 where
  pub at : ℕ
  pub since : t ≤ at
  pub left : s.left below (min at (s.moment (stood_at s past below held at).0)) o

-- the space below was at no later moment than it is now
abbrev pub IsNoLater : {S : Type 0} → Ghosts S → S → S × Held → Type 0
IsNoLater s below stood = s.moment stood.0 ≤ s.moment below

pub record Rises {S : Type 0} (s : Ghosts S) (past : List (S × Held)) (below : S) : Type 0 where
  pub each : s.tells → All (IsNoLater s below) past

-- a space that holds writes may be used: so may the one below, it knows how long the files are, and where nothing was written nothing is held
pub record IsSound {S : Type 0} (s : Ghosts S) (logged : S → ℕ) (good touched : Bool) (lens : List ℕ) (past : List (S × Held)) (below : S) (held : Held) : Type 0 where
  pub good_is : good ≡ true
  pub below_is : s.sound below
  pub held_is : IsHeld s logged below held
  pub lens_are : s.tells → AreLens lens (over held (s.now below))
  pub bare : touched ≡ false → IsBare s below held
  pub rises : Rises s past below
