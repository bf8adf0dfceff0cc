-- Files that a run leaves as they are, and ends at which nothing is printed.
use Rattle.std.specs.Prelude.{◌≡◌, ◌⊎◌, ℕ, [], ◌∷◌, length, Option, Some, Err}
use Rattle.tc_base.specs.Files.{Files}
use Rattle.tc_base.specs.declared.kind.Rule.{Rule}
use Rattle.tc_io.specs.Images.{Calls, synced, now, Images, ImagesSince, IsLostSync}
use Rattle.tc_space.specs.Frames.{OnlyReads}
use Rattle.tc_space.specs.Moments.{LeavesOnly}
use Rattle.tc_space.specs.declared.space.Space as space
use Rattle.ud_log.specs.Undo.{recovered, undo}
use Rattle.ud_state.specs.State.{IsSettled}
use Rattle.tc_model.specs.Contents.{Contents}
use Rattle.tk_top.specs.declared.ends.End.{End}
use Rattle.tk_top.specs.declared.ends.End.TheVariants.{Done, Words, Refused, VolumeFault, Broken, NoMemory, Full, WireFault, TurnsSpent}

-- refused, or a rule is broken
abbrev pub IsSilent : End → Type 0
IsSilent Done = ⊥
IsSilent Words = ⊥
IsSilent Refused = Unit {0}
IsSilent VolumeFault = ⊥
IsSilent (Broken file rule) = Unit {0}
IsSilent NoMemory = ⊥
IsSilent Full = ⊥
IsSilent WireFault = ⊥
IsSilent TurnsSpent = ⊥

-- a call of the volume failed, or there was no memory
abbrev pub IsHindered : End → Type 0
IsHindered Done = ⊥
IsHindered Words = ⊥
IsHindered Refused = ⊥
IsHindered VolumeFault = Unit {0}
IsHindered (Broken file rule) = ⊥
IsHindered NoMemory = Unit {0}
IsHindered Full = ⊥
IsHindered WireFault = ⊥
IsHindered TurnsSpent = ⊥

-- it is recovered to what an image of the opening volume is recovered to
pub record AsOpening (opening : Calls) (o : Option Files) : Type 0 where
  pub image : Files
  pub is_one : Images opening image
  pub same : o ≡ recovered image

-- these files are looked at, and no more: at the exit each image recovers to them, and at any moment each is as an opening image
pub record StaysAt (files : Files) (old new : Calls) : Type 0 where
  pub exit : (ims : Files) → Images new ims → recovered ims ≡ Some files
  pub moments : (ims : Files) → ImagesSince new (length old) ims → AsOpening old (recovered ims)

-- a rule of the log is broken, and no file was changed: nothing was called but the sync of the log that recovery begins with
pub record BreaksLog (old new : Calls) (rule : Rule) : Type 0 where
  pub broken : undo (now old 1) (now old) ≡ Err rule
  pub only : new ≡ (1, synced) ∷ old

-- over a volume whose log breaks a rule nothing was called but that sync, which may have failed
pub record LeavesBroken (old new : Calls) : Type 0 where
  pub stays : (rule : Rule) → undo (now old 1) (now old) ≡ Err rule → (new ≡ (1, synced) ∷ old) ⊎ IsLostSync old new 1

-- of a space: a rule of the layout is broken, and nothing was written
pub record BreaksOver {S : Type 0} (s : space.Ghosts S) (breaks : Files → ℕ → Rule → Type 0) (old new : S) (file : ℕ) (rule : Rule) : Type 0 where
  pub is : s.tells → breaks (s.now old) file rule
  pub reads : OnlyReads s old new

-- the main file isn't empty, and the files stand for nothing
pub record IsDamaged (opens : Files → Contents → Type 0) (files : Files) : Type 0 where
  pub some : files 0 ≡ [] → ⊥
  pub none : (c : Contents) → opens files c → ⊥

-- a main file that is there is opened as it stands: a stop leaves the files as they are kept, and where they stand for nothing they are looked at, and no more
pub record OpensThere {S : Type 0} (s : space.Ghosts S) (opens : Files → Contents → Type 0) (old new : S) : Type 0 where
  pub rests : LeavesOnly s.moment s.left old new (λ o. (o ≡ s.kept old) ⊎ (o ≡ Some (s.now old)))
  pub spared : ((c : Contents) → opens (s.now old) c → ⊥) → OnlyReads s old new

-- these files, or, where the main file is empty, ones in which it was made anew
pub record IsStill (made : Files → Type 0) (files : Files) (o : Option Files) : Type 0 where
  pub which : (o ≡ Some files) ⊎ ((files 0 ≡ []) × (anew : Files) × (o ≡ Some anew) × made anew)

-- the volume was settled, and what its files, as they read, recover to stays
pub record FilesStay (old new : Calls) : Type 0 where
  pub stay : IsSettled old → (files : Files) → recovered (now old) ≡ Some files → StaysAt files old new
