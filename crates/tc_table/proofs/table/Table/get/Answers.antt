use Rattle.std.proofs.Common.{◌∙◌, sym}
use Rattle.tc_table.proofs.Holding.{got_none, got_some}
use Rattle.tc_table.proofs.table.Table.get.Goals as goal

pub returns-in_default-clause-value : goal.returns-in_default-clause-value
returns-in_default-clause-value g c = got_none g.R.S.Space g.R.Records g.L.Multi g.D.Multi c.args.self.now c.args.space.now c.args.key.now (λ m h. sym c.in_default.is ∙ c.in_ok-bytes.ensures.value m h)

pub returns-clause-value : goal.returns-clause-value
returns-clause-value g c = got_some g.R.S.Space g.R.Records g.L.Multi g.D.Multi c.args.self.now c.args.space.now c.args.key.now c.in-Some.bytes c.as_slice.result.now c.in_ok-row.row c.as_slice.ensures (λ m h. sym c.in-Some.is ∙ c.in_ok-bytes.ensures.value m h) c.in_ok-row.ensures.only
