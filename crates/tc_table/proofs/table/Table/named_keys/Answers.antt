use Rattle.std.proofs.lemmas.Result.{IfOk-weaker}
use Rattle.td_index.proofs.Keeping.{rows_stay}
use Rattle.td_plan.proofs.Planning.{within}
use Rattle.tc_table.specs.Searching.{NamesPlanned}
use Rattle.tc_table.proofs.Asked.{planned_named}
use Rattle.tc_table.proofs.Holding.{row_stays, sides_read, sides_ready}
use Rattle.tc_table.proofs.table.Table.named_keys.Goals as goal

pub at-requires : goal.at-requires
at-requires g c = within c.args.q.now.conds c.args.plan.now.choice.cond c.requires.chosen.served.0 c.requires.chosen.served.1

pub keys_by-requires : goal.keys_by-requires
keys_by-requires g c = sides_ready g.R.S.Space g.R.Records g.L.Multi g.D.Multi c.args.self.now c.args.space.now c.requires.ready

pub returns-clause-named : goal.returns-clause-named
returns-clause-named g c =
    IfOk-weaker _ _ (λ ks. NamesPlanned g.R.S.Space g.R.Records g.L.Multi g.D.Multi c.args.q.now c.args.plan.now.choice c.args.self.now c.args.space.now ks)
    (λ ks named. planned_named g.R.S.Space g.R.Records g.L.Multi g.D.Multi c.args.q.now c.args.self.now c.args.plan.now.choice c.args.plan.now.span c.at.result.now c.args.space.now ks c.requires.chosen c.requires.covers c.at.ensures named) c.keys_by.ensures.named

pub returns-clause-reads : goal.returns-clause-reads
returns-clause-reads g c = sides_read g.R.S.Space g.R.Records g.L.Multi g.D.Multi c.args.self.now c.keys_by.new.self c.args.space.now c.keys_by.new.space c.keys_by.ensures.rows c.keys_by.ensures.stays c.keys_by.ensures.reads

pub returns-clause-stays : goal.returns-clause-stays
returns-clause-stays g c = row_stays g.R.S.Space g.R.Records g.L.Multi g.D.Multi c.args.self.now c.keys_by.new.self c.args.self.now.rows c.keys_by.ensures.rows (rows_stay g.R.Records c.args.self.now.rows) c.keys_by.ensures.stays
