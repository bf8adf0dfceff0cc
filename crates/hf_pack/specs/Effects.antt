-- What a call that writes over the bytes of a file leaves of its space.
use Rattle.std.specs.Prelude.{ℕ, Result, OnOk}
use Rattle.tc_space.specs.Effects.{Outcome}
use Rattle.tc_space.specs.Frames.{Keeps, Others}
use Rattle.tc_space.specs.Refusals.{OnFault, OnlyLogIsFull}
use Rattle.tc_space.specs.Stores.{Only}
use Rattle.tc_space.specs.declared.errors.RecErr.{RecErr}
use Rattle.tc_space.specs.declared.space.Space.{Ghosts}

-- after Ok other files stay and the space may be used, after a refusal it may not; the one limit that is named is the undo log's
pub record WritesOver {S T : Type 0} (s : Ghosts S) (file : ℕ) (result : Result T RecErr) (old new : S) : Type 0 where
  pub others : OnOk result (Others s (Only file) old new)
  pub outcome : Outcome s.sound s.flag result new
  pub keeps : Keeps s old new
  pub full : OnlyLogIsFull s result new
  pub cause : OnFault s result old new
