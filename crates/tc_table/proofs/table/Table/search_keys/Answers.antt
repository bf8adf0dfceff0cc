use Rattle.tc_table.proofs.Exact.{exact_found}
use Rattle.tc_table.proofs.Holding.{table_stays}
use Rattle.tc_table.proofs.table.Table.search_keys.Goals as goal

pub returns-in_err-plan-clause-stays : goal.returns-in_err-plan-clause-stays
returns-in_err-plan-clause-stays g c = table_stays g.R.S.Space g.R.Records g.L.Multi g.D.Multi c.args.self.now

pub returns-clause-found : goal.returns-clause-found
returns-clause-found g c =
    exact_found g.R.S.Space g.R.Records g.L.Multi g.D.Multi c.args.q.now c.args.self.now c.in-Some.plan.choice c.in-Some.plan.span c.args.space.now c.in_ok-keys-2.keys (rw c.in-Some.is at c.in_ok-plan.ensures.chosen) (rw c.in-Some.is at c.in_ok-plan.ensures.covers)
    (rw c.in-Some.is at c.in_ok-plan.ensures.exact) c.in_ok-keys-2.ensures.named c.in_ok-found-2.found c.in_ok-found-2.ensures
