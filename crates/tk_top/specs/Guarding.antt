-- What a run leaves alone, however it ends.
use Rattle.std.specs.Prelude.{◌≡◌, ◌⊎◌, ℕ, false}
use Rattle.tc_base.specs.Files.{Files}
use Rattle.tc_base.specs.declared.kind.Kind.{Kind}
use Rattle.tc_io.specs.declared.volume.Volume as volume
use Rattle.tc_space.specs.Frames.{OnlyReads}
use Rattle.tc_space.specs.declared.space.Space as space
use Rattle.tc_model.specs.Contents.{Contents}
use Rattle.ty_base.specs.Opening.{CanOpen, OpensTo}
use Rattle.tk_mgr.specs.declared.task.Task.{Task}
use Rattle.tk_top.specs.declared.ends.End.{End}
use Rattle.tk_top.specs.declared.ends.End.TheVariants.{Refused}
use Rattle.tk_top.specs.Over.{CanStand, IsOut, StaysWithin}
use Rattle.tk_top.specs.Staying.{IsDamaged}
use Rattle.tk_top.specs.Stops.{LeavesAlone, Spares}
use Rattle.tk_top.specs.Tasks.{IsMisplaced}

-- ---- over a space

pub record GuardsOver {S W : Type 0} (s : space.Ghosts S) (opens : Files → Contents → Type 0) (end : End) (old new : S) (x y : W) : Type 0 where
  -- the wire is used only where the files stand for contents
  pub begun : (y ≡ x) ⊎ (s.tells → (c : Contents) × opens (s.now old) c)
  -- and so is a label
  pub copied : (s.names new ≡ s.names old) ⊎ (s.tells → (c : Contents) × opens (s.now old) c)
  -- files that break a rule are looked at, and no more
  pub spared : s.tells → IsDamaged opens (s.now old) → OnlyReads s old new
  -- at the end of the turns, or of the wire, the space may be used, so that no file has passed its limit
  pub sound : IsOut end → s.sound new × (s.touched new ≡ false)

pub record GuardsTaskOver {S O : Type 0} (s : space.Ghosts S) (reopens : Files → Contents → Type 0) (kind : Kind) (task : Task) (end : End) (old new : S) (p q : O) : Type 0 where
  -- something is printed only where the files stand for contents
  pub begun : (q ≡ p) ⊎ CanOpen s reopens kind old
  -- files that break a rule are looked at, and no more
  pub spared : s.tells → IsDamaged (OpensTo kind reopens) (s.now old) → OnlyReads s old new
  -- nor is a main file that isn't as the task wants it
  pub misplaced : s.tells → IsMisplaced task (s.now old) → (end ≡ Refused) × (new ≡ old)

-- ---- over a volume

pub record GuardsOn {V W : Type 0} (v : volume.Ghosts V) (opens : Files → Contents → Type 0) (limit : ℕ) (end : End) (vol vol' : V) (x y : W) : Type 0 where
  -- however it ended, the wire was used only where the files stood for contents
  pub begun : (y ≡ x) ⊎ CanStand v opens vol
  -- and so no copy changed in any other case
  pub copied : (v.tells → (v.names vol').copies ≡ (v.names vol).copies) ⊎ CanStand v opens vol
  -- files that break a rule are looked at, and no more, however the run ends
  pub spared : v.tells → Spares (IsDamaged opens) end (v.calls vol) (v.calls vol')
  -- at the end of the turns, or of the wire, no file has passed its limit
  pub within : IsOut end → v.tells → StaysWithin limit (v.calls vol) (v.calls vol')

pub record GuardsTaskOn {V O : Type 0} (v : volume.Ghosts V) (opens : Files → Contents → Type 0) (task : Task) (end : End) (vol vol' : V) (p q : O) : Type 0 where
  -- however it ended, something was printed only where the files stood for contents
  pub begun : (q ≡ p) ⊎ CanStand v opens vol
  -- files that break a rule are looked at, and no more, however the run ends
  pub spared : v.tells → Spares (IsDamaged opens) end (v.calls vol) (v.calls vol')
  -- a main file that isn't as the task wants it is looked at, and no more
  pub misplaced : v.tells → LeavesAlone (IsMisplaced task) end (v.calls vol) (v.calls vol')
