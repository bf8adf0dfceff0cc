use Rattle.std.proofs.Common.{rules, arith}
use Rattle.ty_answers.proofs.Emptied.{none_next}
use Rattle.ty_answers.proofs.walks.first_held.Goals as goal

pub returns-then-count-eq0-clause-place : goal.returns-then-count-eq0-clause-place
returns-then-count-eq0-clause-place g c k h = none_next k c.args.keys.now (omega (arith, c.if-count-eq0.true, c.count.ensures (g.E.S.Space.now c.args.space.now) k h.1))
