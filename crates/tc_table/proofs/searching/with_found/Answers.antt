use Rattle.tc_table.proofs.Gathering.{none_asked}
use Rattle.tc_table.proofs.searching.with_found.Goals as goal

pub returns-in-None : goal.returns-in-None
returns-in-None c = none_asked c.args.q.now c.args.key.now c.args.row c.args.rows c.in-None.is
