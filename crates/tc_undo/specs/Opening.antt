-- What an opening makes of a volume.
use Rattle.std.specs.Prelude.{◌≡◌, ◌≢◌, ◌⊎◌, ℕ, ◌≤◌, ◌∷◌, Bool, true, length, Ok, Err}
use Rattle.ud_state.specs.Recovery.{Recovers}
use Rattle.tc_io.specs.Causes.{Rose}
use Rattle.tc_base.specs.declared.kind.Rule.{Rule}
use Rattle.tc_io.specs.Images.{Calls, now, synced, IsLostSync}
use Rattle.ud_log.specs.Undo.{data_of, undo}
use Rattle.ud_state.specs.State.{Idle, IsSettled}
use Rattle.tc_undo.specs.Errors.{OnRule}
use Rattle.tc_undo.specs.declared.errors.UndoErr.{UndoErr}
use Rattle.tc_undo.specs.declared.errors.UndoErr.TheVariants as undo_error

-- the files now are what the log made of the files that were there; they are kept, and the log is empty
pub record OpensKept (old new : Calls) : Type 0 where
  pub undone : undo (now old 1) (now old) ≡ Ok (data_of (now new))
  pub idle : Idle new (data_of (now new))
  pub grows : length old ≤ length new
  pub stops : IsSettled old → Recovers old new

-- over a log that breaks a rule nothing was called but the sync of it that recovery begins with, which may have failed
pub record SparesBroken (old new : Calls) : Type 0 where
  pub spares : (rule : Rule) → undo (now old 1) (now old) ≡ Err rule → (new ≡ (1, synced) ∷ old) ⊎ IsLostSync old new 1

-- refused: a rule is named where the log breaks it first, and then nothing was changed
pub record IsRefused (why : UndoErr) (old new : Calls) : Type 0 where
  pub broken : OnRule why (λ rule. (undo (now old 1) (now old) ≡ Err rule) × (new ≡ (1, synced) ∷ old))
  pub spares : SparesBroken old new
  pub stops : IsSettled old → Recovers old new

-- the volume may be opened again, and a call of it failed where that is said
pub record HandsBack (why : UndoErr) (is_bound : Bool) (before now : ℕ) : Type 0 where
  pub bound : is_bound ≡ true
  pub later : before ≤ now
  pub cause : why ≡ undo_error.Fault → Rose before now
  pub no_memory : why ≢ undo_error.Memory
