-- The same cause as a turn's error.
use Rattle.tc_space.specs.declared.errors.RecErr.{RecErr}
use Rattle.tc_space.specs.declared.errors.RecErr.TheVariants as rec
use Rattle.ty_rounds.specs.declared.outcome.TurnErr.{TurnErr}
use Rattle.ty_rounds.specs.declared.outcome.TurnErr.TheVariants as turn

abbrev pub turn_of : RecErr → TurnErr
turn_of rec.Full = turn.Full
turn_of rec.Fault = turn.Volume
turn_of rec.Memory = turn.Memory
