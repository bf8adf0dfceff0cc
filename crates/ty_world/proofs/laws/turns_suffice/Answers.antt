use Rattle.ty_world.proofs.Scripts.{alone_of, bound_of, played_of}
use Rattle.ty_world.proofs.laws.turns_suffice.Goals as goal

pub returns-clause-bound : goal.returns-clause-bound
returns-clause-bound c = bound_of

pub returns-clause-alone : goal.returns-clause-alone
returns-clause-alone c = alone_of

pub returns-clause-played : goal.returns-clause-played
returns-clause-played c = played_of
