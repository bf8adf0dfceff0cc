use Rattle.tk_copy.proofs.Spoiled.{breaks}
use Rattle.tk_copy.proofs.laws.unusable_breaks.Goals as goal

pub returns : goal.returns
returns c = breaks
