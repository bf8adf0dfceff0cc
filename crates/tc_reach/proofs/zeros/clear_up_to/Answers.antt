use Rattle.std.proofs.Common.{◌-◌, arith}
use Rattle.tc_reach.proofs.Zeroed.{zeros_none}
use Rattle.tc_reach.proofs.zeros.clear_up_to.Goals as goal

pub returns-then-to-from-clause-wrote : goal.returns-then-to-from-clause-wrote
returns-then-to-from-clause-wrote g c = λ t. zeros_none g.S.Space.now c.args.file c.args.space.now c.args.from (c.args.to - c.args.from) (omega (arith, c.if-to-from.true))
