use Rattle.std.proofs.Common.{arith}
use Rattle.td_plan.specs.Choices.{IsUnserved}
use Rattle.td_plan.proofs.Firsts.{one_more}
use Rattle.td_plan.proofs.choice.choose.Goals as goal

pub loop-i-preserved : goal.loop-i-preserved
loop-i-preserved c = one_more (IsUnserved c.args.indexes.now) c.args.q.now.conds c.loop-i.i c.at.result.now c.at.ensures c.in-None.ensures c.loop-i.invariant

pub returns-in-Some : goal.returns-in-Some
returns-in-Some c = record { served = (c.at.result.now, c.at.ensures, c.in-Some.ensures); first = c.loop-i.invariant }

pub returns : goal.returns
returns c = λ i x less is. c.loop-i.invariant i x (omega (arith, less, c.loop-i-test.false, c.len-i-end.ensures)) is
