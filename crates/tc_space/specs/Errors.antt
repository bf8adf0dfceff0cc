-- The same cause as another layer's error.
use Rattle.tc_space.specs.declared.errors.SpaceErr.{SpaceErr}
use Rattle.tc_space.specs.declared.errors.SpaceErr.TheVariants as space
use Rattle.tc_space.specs.declared.errors.RecErr.{RecErr}
use Rattle.tc_space.specs.declared.errors.RecErr.TheVariants as rec
use Rattle.tc_space.specs.declared.errors.PutErr.{PutErr}
use Rattle.tc_space.specs.declared.errors.PutErr.TheVariants as put

abbrev pub rec_of : SpaceErr → RecErr
rec_of space.Full = rec.Full
rec_of space.Fault = rec.Fault
rec_of space.Memory = rec.Memory

abbrev pub put_of : RecErr → PutErr
put_of rec.Full = put.Full
put_of rec.Fault = put.Fault
put_of rec.Memory = put.Memory
