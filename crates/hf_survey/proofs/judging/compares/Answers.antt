use Rattle.std.proofs.Common.{◌-◌}
use Rattle.hf_survey.proofs.Keyed.{compares_one, compares_is, compares_none, true_false}
use Rattle.hf_survey.proofs.judging.compares.Goals as goal

pub returns-then-number-eq0-clause-yes : goal.returns-then-number-eq0-clause-yes
returns-then-number-eq0-clause-yes g c = λ is t. compares_none c.args.facts.now c.args.fact.now c.args.number c.args.wanted (g.S.Space.now c.args.space.now c.args.file) c.if-number-eq0.true

pub order_of-requires-clause-second : goal.order_of-requires-clause-second
order_of-requires-clause-second g c = λ t. c.requires.all t (c.args.number - 1) c.at.result.now c.at.ensures

pub returns-clause-yes : goal.returns-clause-yes
returns-clause-yes g c = λ is t. compares_one c.args.facts.now c.args.fact.now c.at.result.now c.args.number c.in_ok-order.order c.args.wanted (g.S.Space.now c.args.space.now c.args.file) c.at.ensures (c.in_ok-order.ensures.order t) (c.is_same.ensures.0 is)

pub returns-clause-no : goal.returns-clause-no
returns-clause-no g c = λ is t all. true_false c.is_same.result (c.is_same.ensures.1 (compares_is c.args.facts.now c.args.fact.now c.at.result.now c.args.number c.in_ok-order.order c.args.wanted (g.S.Space.now c.args.space.now c.args.file) c.if-number-eq0.false c.at.ensures (c.in_ok-order.ensures.order t) all)) is
