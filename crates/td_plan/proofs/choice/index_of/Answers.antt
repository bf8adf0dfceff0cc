use Rattle.std.proofs.Common.{◌≡◌, ◌∙◌, false, sym, arith}
use Rattle.td_plan.specs.Choices.{is_served}
use Rattle.td_plan.proofs.Firsts.{one_more}
use Rattle.td_plan.proofs.choice.index_of.Goals as goal

pub loop-i-preserved : goal.loop-i-preserved
loop-i-preserved c =
    one_more (λ x. is_served c.args.cond.now x ≡ false) c.args.indexes.now c.loop-i.i c.at.result.now c.at.ensures (sym c.is_served.ensures ∙ c.if-is_served.false) c.loop-i.invariant

pub returns-then-is_served : goal.returns-then-is_served
returns-then-is_served c = record { here = (c.at.result.now, c.at.ensures, sym c.is_served.ensures ∙ c.if-is_served.true); before = c.loop-i.invariant }

pub returns : goal.returns
returns c = λ i x less is. c.loop-i.invariant i x (omega (arith, less, c.loop-i-test.false, c.len-i-end.ensures)) is
