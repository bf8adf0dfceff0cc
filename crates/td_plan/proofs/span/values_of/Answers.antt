use Rattle.td_plan.proofs.Covering.{begin_covers, two_left, value_covers}
use Rattle.td_plan.proofs.span.values_of.Goals as goal

pub returns-then-operator-eq0 : goal.returns-then-operator-eq0
returns-then-operator-eq0 c = value_covers c.args.operator c.in_ok-value.value c.args.e.now c.if-operator-eq0.true c.in_ok-value.ensures

pub returns : goal.returns
returns c = begin_covers c.args.operator c.in_ok-value.value c.args.e.now (two_left c.args.operator c.requires c.if-operator-eq0.false) c.in_ok-value.ensures
