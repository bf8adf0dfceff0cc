-- What making a file anew leaves of a volume.
use Rattle.std.specs.Prelude.{◌≡◌, ◌⊎◌, ◌^◌, ℕ, max, true, [], ◌∷◌, length, Option, Some}
use Rattle.tc_base.specs.Files.{Files}
use Rattle.tc_base.specs.declared.kind.Rule.{Rule}
use Rattle.tc_io.specs.Images.{Calls, now}
use Rattle.tc_io.specs.declared.volume.Volume as volume
use Rattle.tc_space.specs.declared.space.Space as space
use Rattle.ud_log.specs.Undo.{is_data, recovered}
use Rattle.ud_state.specs.State.{IsSettled}
use Rattle.tc_model.specs.Contents.{Contents}
use Rattle.ty_world.specs.World.{Mark}
use Rattle.ty_rounds.specs.Kept.{AtMark, Reopens}
use Rattle.tk_mgr.specs.Managing.{with_contents}
use Rattle.tk_top.specs.declared.ends.End.{End}
use Rattle.tk_top.specs.declared.ends.End.TheVariants.{Done, Words, Refused, VolumeFault, Broken, NoMemory, Full, WireFault, TurnsSpent}
use Rattle.tk_top.specs.Over.{BeginsAt, BreaksOn}
use Rattle.tk_top.specs.Serving.{Begins}
use Rattle.tk_top.specs.Staying.{BreaksOver, LeavesBroken, StaysAt}
use Rattle.tk_top.specs.Stops.{IsEarly, StopsAt, StopsOver}
use Rattle.tk_top.specs.Volumes.{ShowsNow}

-- an end of making a file: no wire, and nothing is printed
abbrev pub JudgedMaking : End → Type 0 → (ℕ → Rule → Type 0) → Type 0 → Type 0
JudgedMaking Done empty breaks some = empty
JudgedMaking Words empty breaks some = ⊥
JudgedMaking Refused empty breaks some = some
JudgedMaking VolumeFault empty breaks some = Unit {0}
JudgedMaking (Broken file rule) empty breaks some = breaks file rule
JudgedMaking NoMemory empty breaks some = Unit {0}
JudgedMaking Full empty breaks some = empty
JudgedMaking WireFault empty breaks some = ⊥
JudgedMaking TurnsSpent empty breaks some = ⊥

-- the main file isn't empty
abbrev pub IsThere : Files → Type 0
IsThere files = files 0 ≡ [] → ⊥

-- the main file is empty, and the files stand for contents
pub record CanBeMade (reopens : Files → Contents → Type 0) (files : Files) : Type 0 where
  pub none : files 0 ≡ []
  pub contents : Contents
  pub stand : reopens files contents

-- the volume reads and recovers to such files; or to others whose main file isn't empty, and they stay
pub record MainIsEmpty (reopens : Files → Contents → Type 0) (old : Calls) : Type 0 where
  pub files : Files
  pub is : recovered (now old) ≡ Some files
  pub can : CanBeMade reopens files

pub record MainIsThere (old new : Calls) : Type 0 where
  pub files : Files
  pub is : recovered (now old) ≡ Some files
  pub some : files 0 ≡ [] → ⊥
  pub stay : IsSettled old → StaysAt files old new

-- files that stand for contents, and whose main file is empty or has these numbers
pub record InShape (reopens : Files → Contents → Type 0) (numbers : Files → Type 0) (files : Files) (c : Contents) : Type 0 where
  pub stand : reopens files c
  pub shape : (files 0 ≡ []) ⊎ numbers files

-- files that stand for no data, and whose head has these numbers
pub record IsMade (reopens : Files → Contents → Type 0) (numbers : Files → Type 0) (made : Mark) (o : Option Files) : Type 0 where
  pub reopen : Reopens reopens o made
  pub some : reopen.files 0 ≡ [] → ⊥
  pub numbered : numbers reopen.files

-- what a stop leaves at the exit stands for no data in the new shape, or for the mark before; for the former where it is done, for the latter where it is refused
pub record ExitsMaking (reopens : Files → Contents → Type 0) (numbers : Files → Type 0) (anew : Contents) (end : End) (first : Mark) (o : Option Files) : Type 0 where
  pub at : AtMark reopens o (with_contents first anew ∷ first ∷ [])
  pub done : end ≡ Done → IsMade reopens numbers (with_contents first anew) o
  pub stay : end ≡ Refused → Reopens reopens o first

-- over a space that began at this mark
abbrev pub MakingOver : {S : Type 0} → space.Ghosts S → (Files → Contents → Type 0) → (Files → Type 0) → Contents → End → S → S → Mark → Type 0
MakingOver s reopens numbers anew end old new first = StopsOver s reopens (ExitsMaking reopens numbers anew end first) (with_contents first anew ∷ first ∷ []) old new

-- what making a file leaves of a volume
pub record FilesMade (tells : Type 0) (opens reopens : Files → Contents → Type 0) (numbers : Files → Type 0) (anew : Contents) (end : End) (old new : Calls) : Type 0 where
  pub broken : tells → LeavesBroken old new
  -- where it was settled, and its files, as they read, recovered and reopened to a mark
  pub ends : IsSettled old → (first : Mark) → BeginsAt tells opens old first → StopsAt reopens (ExitsMaking reopens numbers anew end first) (IsEarly end) (with_contents first anew ∷ first ∷ []) old new

-- a space of this volume that has no room for the file; each of its data files may have so many bytes, or as many as it had where that is more
pub record FilesLack {S V : Type 0} (s : space.Ghosts S) (under : S → V) (calls : V → Calls) (tells : Type 0) (lacks : S → Type 0) (most : ℕ) (old : Calls) (vol : V) : Type 0 where
  pub space : S
  pub vol_is : under space ≡ vol
  -- what it has brought there are the files of the volume that is handed back
  pub shows : s.brought space → ShowsNow (calls (under space)) (s.now space)
  pub limits : tells → (files : Files) → recovered (now old) ≡ Some files → (f : ℕ) → is_data f ≡ true → s.limit space f ≡ max most (length (files f))
  pub lack : tells → lacks space

-- ---- of a space

module _ {S : Type 0} (s : space.Ghosts S) where
  -- at whichever mark it began
  abbrev pub MakesOver : (Files → Contents → Type 0) → (Files → Type 0) → Contents → End → S → S → Type 0
  MakesOver reopens numbers anew end old new = (first : Mark) → Begins s reopens old first → MakingOver s reopens numbers anew end old new first

  -- what it is made in had an empty main file, and stood for contents; where it is refused the main file wasn't empty, and all is left alone; and a rule that is named is broken
  abbrev pub JudgedMakingOver : (Files → Contents → Type 0) → (Files → ℕ → Rule → Type 0) → End → S → S → Type 0
  JudgedMakingOver reopens breaks end old new = JudgedMaking end (s.tells → CanBeMade reopens (s.now old)) (BreaksOver s breaks old new) ((s.tells → s.now old 0 ≡ [] → ⊥) × (new ≡ old))

-- and no file with other numbers is left, at any moment and however it ends
pub record MakesShaped {S : Type 0} (s : space.Ghosts S) (reopens : Files → Contents → Type 0) (numbers : Files → Type 0) (anew : Contents) (end : End) (old new : S) : Type 0 where
  pub stands : MakesOver s reopens numbers anew end old new
  pub shaped : MakesOver s (InShape reopens numbers) numbers anew end old new

-- ---- of a volume

module _ {V : Type 0} (v : volume.Ghosts V) where
  abbrev pub MakesOn : (Files → Contents → Type 0) → (Files → Type 0) → Contents → End → V → V → Type 0
  MakesOn reopens numbers anew end old new = FilesMade v.tells reopens reopens numbers anew end (v.calls old) (v.calls new)

  -- a rule that is named is one of the log, or of files beside an empty main file
  abbrev pub JudgedMakingOn : (Files → Contents → Type 0) → (Files → ℕ → Rule → Type 0) → End → V → V → Type 0
  JudgedMakingOn reopens breaks end old new = JudgedMaking end (v.tells → MainIsEmpty reopens (v.calls old)) (BreaksOn v breaks old new) (v.tells → MainIsThere (v.calls old) (v.calls new))

  -- of files that may have so many bytes as any may
  abbrev pub LacksOn : {S N : Type 0} → space.Ghosts S → (S → V) → (S → N → Type 0) → N → V → V → Type 0
  LacksOn s under lacks shape old new = FilesLack s under v.calls v.tells (λ space. lacks space shape) (2 ^ 40) (v.calls old) new
