-- The same cause as a task's error.
use Rattle.tc_space.specs.declared.errors.RecErr.{RecErr}
use Rattle.tc_space.specs.declared.errors.RecErr.TheVariants as rec
use Rattle.tk_mgr.specs.declared.errors.MgrErr.{MgrErr}
use Rattle.tk_mgr.specs.declared.errors.MgrErr.TheVariants as err

abbrev pub mgr_of : RecErr → MgrErr
mgr_of rec.Full = err.Full
mgr_of rec.Fault = err.Fault
mgr_of rec.Memory = err.Memory
