use Rattle.std.proofs.Common.{ap, Err}
use Rattle.tc_model.specs.Maps.{without}
use Rattle.tc_hashdb.proofs.Stored.{takes_writes}
use Rattle.tc_hashdb.proofs.holding.HashEngine.drop_key.Goals as goal

pub returns-in-Ok-clause-out : goal.returns-in-Ok-clause-out
returns-in-Ok-clause-out g c = takes_writes g.S.Space (λ m. without m c.args.key.now) c.in-Ok.field-0 _ _ _ _ c.in-Ok.ensures.takes

pub given_up-requires : goal.given_up-requires
given_up-requires g c = λ is. (c.in-Err.ensures.full (ap (λ e. Err e) is)).0
