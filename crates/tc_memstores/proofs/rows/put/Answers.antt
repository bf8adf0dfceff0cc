use Rattle.tc_maps.proofs.Mapped.{one_set}
use Rattle.tc_memstores.proofs.rows.put.Goals as goal

pub returns-clause-ok : goal.returns-clause-ok
returns-clause-ok c = one_set c.args.entries.now.entries c.insert.new.self.entries c.args.key c.args.value c.in_ok-insert.ensures.updates.0
