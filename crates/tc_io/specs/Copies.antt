-- What a volume has beside its files: the names that it was given, and copies of a database, each under a label.
use Rattle.std.specs.Prelude.{◌≡◌, ◌⊎◌, ℕ, ◌≤◌, List, [], ◌∷◌, length, Bool, true, false, nat_eq, Option, None, unwrap_or, is_some}
use Rattle.tc_base.specs.Files.{Files}
use Rattle.tc_io.specs.Images.{Calls, Images, ImagesSince}

pub record Named : Type 0 where
  -- the names that `bind` was given, where they are told
  pub told : Option (List (List ℕ))
  -- the label bound last
  pub label : Option (List ℕ)
  -- where files are told, by label: the calls so far that changed a file of that copy, the newest first. Its files are numbered as those of a database
  pub copies : List ℕ → Calls

-- nothing was named, and there is no copy
abbrev pub unnamed : Named
unnamed = record { told = None; label = None; copies = λ l. [] }

-- by what an object says of its names: those that it was given
abbrev pub told_by : {V : Type 0} → (V → Named) → V → Option (List (List ℕ))
told_by names v = (names v).told

abbrev pub label_of : Named → List ℕ
label_of n = unwrap_or n.label []

-- the calls on the copy bound last
abbrev pub copy_of : Named → Calls
copy_of n = n.copies (label_of n)

-- the same label is bound, and no copy changes
pub record SameCopies (tells : Type 0) (old new : Named) : Type 0 where
  pub label : new.label ≡ old.label
  pub copies : tells → new.copies ≡ old.copies

-- no copy changes, and none is bound any more
pub record LetsCopyGo (tells : Type 0) (old new : Named) : Type 0 where
  pub told : new.told ≡ old.told
  pub label : new.label ≡ None
  pub copies : tells → new.copies ≡ old.copies

-- only this copy changed
pub record OthersStay (label : List ℕ) (old new : Named) : Type 0 where
  pub others : (l : List ℕ) → (l ≡ label → ⊥) → new.copies l ≡ old.copies l

-- the same names were given, and the same label is bound
pub record SameLabel (old new : Named) : Type 0 where
  pub told : new.told ≡ old.told
  pub label : new.label ≡ old.label

-- the volume is bound, and a copy is
abbrev pub IsCopyBound : Bool → Named → Type 0
IsCopyBound bound n = (bound ≡ true) × (is_some n.label ≡ true)

-- whatever a call on the copy bound last answers: the volume's own files stay, and every other copy
pub record OnlyCopy (tells : Type 0) (was is_bound : Bool) (calls calls' : Calls) (old new : Named) : Type 0 where
  pub bound : is_bound ≡ was
  pub files : tells → calls' ≡ calls
  pub same : SameLabel old new
  pub stay : tells → OthersStay (label_of old) old new

-- ---- what a stop may leave of a copy

-- an undo log that is empty or begins with the first byte of its magic word; any other first byte breaks its first rule
abbrev pub may_undo : List ℕ → Bool
may_undo [] = true
may_undo (b ∷ bs) = nat_eq b 84

-- these files byte for byte, with an empty undo log
pub record IsTheCopy (kept ims : Files) : Type 0 where
  pub log : ims 1 ≡ []
  pub same : (f : ℕ) → f ≤ 18 → (f ≡ 1 → ⊥) → ims f ≡ kept f

-- what a stop may leave of a copy that is made of these files
pub data LeftOfCopy (kept : Files) (old : Calls) (ims : Files) : Type 0 where
  as_before : Images old ims → LeftOfCopy kept old ims
  unusable : may_undo (ims 1) ≡ false → LeftOfCopy kept old ims
  copied : IsTheCopy kept ims → LeftOfCopy kept old ims

-- at each moment since then a stop leaves that
pub record CopyMoments (kept : Files) (old new : Calls) : Type 0 where
  pub later : length old ≤ length new
  pub each : (t : ℕ) (ims : Files) → t ≤ length old → ImagesSince new t ims → ImagesSince old t ims ⊎ LeftOfCopy kept old ims

-- a stop leaves the copy alone
pub record IsCopied (kept : Files) (cs : Calls) : Type 0 where
  pub all : (ims : Files) → Images cs ims → IsTheCopy kept ims

-- what a call that makes a copy does to it, and to nothing else
pub record MakesCopy (kept : Files) (label : List ℕ) (old new : Named) : Type 0 where
  pub told : new.told ≡ old.told
  pub moments : CopyMoments kept (old.copies label) (new.copies label)
  pub others : OthersStay label old new
