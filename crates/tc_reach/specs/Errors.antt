-- The cause of a pass that stopped, as the error of what is read or opened.
use Rattle.tc_reach.specs.declared.errors.ReadErr.{ReadErr}
use Rattle.tc_reach.specs.declared.errors.ReadErr.TheVariants as read
use Rattle.tc_space.specs.declared.errors.RecErr.{RecErr}
use Rattle.tc_space.specs.declared.errors.RecErr.TheVariants as rec
use Rattle.tc_space.specs.declared.errors.OpenErr.{OpenErr}
use Rattle.tc_space.specs.declared.errors.OpenErr.TheVariants as open_err

abbrev pub rec_of : ReadErr → RecErr
rec_of read.Fault = rec.Fault
rec_of read.Memory = rec.Memory

abbrev pub open_of : ReadErr → OpenErr
open_of read.Fault = open_err.Fault
open_of read.Memory = open_err.Memory
