use Rattle.std.proofs.Common.{◌∙◌, true, false, sym}
use Rattle.tc_table.proofs.Counted.{asked_or_not}
use Rattle.tc_table.proofs.searching.count_row.Goals as goal

pub returns-then-not-holds-clause-found : goal.returns-then-not-holds-clause-found
returns-then-not-holds-clause-found c = asked_or_not c.args.q.now c.args.key.now c.args.row.now false (sym c.holds.ensures ∙ c.if-not-holds.true)

pub returns-clause-found : goal.returns-clause-found
returns-clause-found c = asked_or_not c.args.q.now c.args.key.now c.args.row.now true (sym c.holds.ensures ∙ c.if-not-holds.false)
