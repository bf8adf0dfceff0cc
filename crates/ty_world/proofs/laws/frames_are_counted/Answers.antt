use Rattle.ty_world.proofs.Counted.{counted, listed}
use Rattle.ty_world.proofs.laws.frames_are_counted.Goals as goal

pub returns-clause-found : goal.returns-clause-found
returns-clause-found c = listed

pub returns-clause-counted : goal.returns-clause-counted
returns-clause-counted c = counted
