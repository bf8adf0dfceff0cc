-- What a call on a space does to it, by the members of a space.
use Rattle.std.specs.Prelude.{◌≡◌, ◌≢◌, ℕ, ◌≤◌, Bool, true, false, List, Option, None, Result, OnOk, OnErr, IsErrOf}
use Rattle.std.proofs.Common.{◌∙◌, arith, refl}
use Rattle.tc_base.specs.Files.{Files}
use Rattle.tc_io.specs.Causes.{Rose}
use Rattle.tc_io.specs.Copies.{MakesCopy, Named, told_by}
use Rattle.tc_space.specs.Moments.{Steady}
use Rattle.tc_space.specs.Ranges.{Passes}
use Rattle.tc_space.specs.declared.errors.SpaceErr.{SpaceErr}
use Rattle.tc_space.specs.declared.errors.SpaceErr.TheVariants.{Fault, Full, Memory}

-- whatever it answers: the count of faults hasn't fallen, and the limits and the names of the volume stay
pub record FollowsIn {S N : Type 0} (faults : S → ℕ) (limit : S → ℕ → ℕ) (names : S → N) (old new : S) : Type 0 where
  pub later : faults old ≤ faults new
  pub same_limit : limit new ≡ limit old
  pub same_names : names new ≡ names old

module _ {S N : Type 0} (faults : S → ℕ) (limit : S → ℕ → ℕ) (names : S → N) where
  pub follows_in_refl : (a : S) → FollowsIn faults limit names a a
  follows_in_refl a = record { later = omega arith; same_limit = refl; same_names = refl }

  pub follows_in_then : (a b c : S) → FollowsIn faults limit names a b → FollowsIn faults limit names b c → FollowsIn faults limit names a c
  follows_in_then a b c first second = record { later = omega (arith, first.later, second.later); same_limit = second.same_limit ∙ first.same_limit; same_names = second.same_names ∙ first.same_names }

-- whatever it answers: a stop leaves what is kept, and that stays, and so does what was; limits, names and faults follow
pub record Stays {S N : Type 0} (tells : Type 0) (moment : S → ℕ) (files_at : S → ℕ → Files) (left : S → ℕ → Option Files → Type 0) (kept : S → Option Files) (faults : S → ℕ) (limit : S → ℕ → ℕ) (names : S → N) (old new : S) : Type 0 where
  pub steady : tells → Steady moment files_at left kept old new
  pub follows : FollowsIn faults limit names old new

-- something may have been written, and nothing was read
pub record Touches {S : Type 0} (touched : S → Bool) (bytes_read : S → ℕ) (old new : S) : Type 0 where
  pub marked : touched new ≡ true
  pub same_read : bytes_read new ≡ bytes_read old

-- one file has these bytes, and all others stay
pub record Changes {S : Type 0} (now : S → Files) (file : ℕ) (bytes : List ℕ) (old new : S) : Type 0 where
  pub here : now new file ≡ bytes
  pub others : (g : ℕ) → g ≢ file → now new g ≡ now old g

-- after Ok it may be used, after a refusal not
pub record Outcome {S T E : Type 0} (sound : S → Type 0) (flag : S → Bool) (result : Result T E) (new : S) : Type 0 where
  pub ok : OnOk result (sound new)
  pub err : OnErr result (flag new ≡ false)

-- a limit was reached, and the files stay
pub record Reached {S : Type 0} (tells why : Type 0) (now : S → Files) (old new : S) : Type 0 where
  pub by : why
  pub same : tells → (g : ℕ) → now new g ≡ now old g

-- a write of so many bytes at a place passes the file's limit, or its log is full
abbrev pub LacksRoom : {S : Type 0} → (S → ℕ → ℕ) → (S → ℕ → ℕ → ℕ → Type 0) → (S → Type 0) → ℕ → ℕ → ℕ → S → S → Type 0
LacksRoom limit overfills log_full file at size old new = Passes (limit old file) (overfills old file at size × log_full new) at size

-- a fault comes only where a call of the volume failed, and memory is never wanting
abbrev pub Caused : {S T : Type 0} → (S → ℕ) → Result T SpaceErr → S → S → Type 0
Caused faults result old new = (IsErrOf result Fault → Rose (faults old) (faults new)) × (IsErrOf result Memory → ⊥)

-- where it says that a limit was reached, one was, and the files stay
abbrev pub IsFull : {S T : Type 0} → Type 0 → (S → Files) → Result T SpaceErr → Type 0 → S → S → Type 0
IsFull tells now result why old new = IsErrOf result Full → Reached tells why now old new

-- the copy under a label was made of the files, or a stop at any moment leaves what may be left of it, and it is let go; besides, nothing is written
pub record Copies {S : Type 0} (tells : Type 0) (moment : S → ℕ) (files_at : S → ℕ → Files) (left : S → ℕ → Option Files → Type 0) (kept : S → Option Files) (now : S → Files) (faults : S → ℕ) (limit : S → ℕ → ℕ) (names : S → Named) (label : List ℕ) (old new : S) : Type 0 where
  pub makes : tells → MakesCopy (now old) label (names old) (names new)
  pub told : told_by names new ≡ told_by names old
  pub let_go : (names new).label ≡ None
  pub steady : tells → Steady moment files_at left kept old new
  pub same : tells → (g : ℕ) → now new g ≡ now old g
  pub same_limit : limit new ≡ limit old
  pub later : faults old ≤ faults new
