use Rattle.td_plan.proofs.Planning.{chosen_all}
use Rattle.td_plan.proofs.plan.make_plan.Goals as goal

pub returns-clause-all : goal.returns-clause-all
returns-clause-all c = chosen_all c.args.q.now c.args.indexes.now c.in-Some.choice c.in_ok-span.span c.in-Some.ensures c.in_ok-span.ensures
