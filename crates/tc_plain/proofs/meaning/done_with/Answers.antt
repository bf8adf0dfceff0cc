use Rattle.tc_plain.proofs.Doing.{done_parts}
use Rattle.tc_plain.proofs.meaning.done_with.Goals as goal

pub returns : goal.returns
returns c = done_parts c.args.deed c.args.rows c.args.indexes c.args.found.now c.in_ok-left.left c.in_ok-items.items c.in_ok-left.ensures c.in_ok-items.ensures
