use Rattle.ty_world.proofs.Feeds.{all_fed, all_was_fed}
use Rattle.ty_world.proofs.laws.feeds_are_owed_all.Goals as goal

pub returns-clause-there : goal.returns-clause-there
returns-clause-there c = λ es o. all_fed es o.is o.ticks o.opens o.mark

pub returns-clause-past : goal.returns-clause-past
returns-clause-past c = λ es o. all_was_fed es o.is o.ticks o.opens o.mark
