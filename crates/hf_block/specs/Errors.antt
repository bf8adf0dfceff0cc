-- The cause of a pass that stopped, as the error of a walk.
use Rattle.hf_block.specs.declared.walking.WalkErr.{WalkErr}
use Rattle.hf_block.specs.declared.walking.WalkErr.TheVariants as walk
use Rattle.tc_reach.specs.declared.errors.ReadErr.{ReadErr}
use Rattle.tc_reach.specs.declared.errors.ReadErr.TheVariants as read

abbrev pub walk_of : ReadErr → WalkErr
walk_of read.Fault = walk.Fault
walk_of read.Memory = walk.Memory
