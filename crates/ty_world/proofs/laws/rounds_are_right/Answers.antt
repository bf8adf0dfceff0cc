use Rattle.ty_world.proofs.Order.{all_in_order}
use Rattle.ty_world.proofs.RoundLaws.{all_idle, all_quiet}
use Rattle.ty_world.proofs.Served.{none_of}
use Rattle.ty_world.proofs.laws.rounds_are_right.Goals as goal

pub returns-clause-order : goal.returns-clause-order
returns-clause-order c = λ es o. all_in_order es o.is o.ticks o.opens o.mark

pub returns-clause-idle : goal.returns-clause-idle
returns-clause-idle c = all_idle

pub returns-clause-quiet : goal.returns-clause-quiet
returns-clause-quiet c = all_quiet

pub returns-clause-none : goal.returns-clause-none
returns-clause-none c = none_of
