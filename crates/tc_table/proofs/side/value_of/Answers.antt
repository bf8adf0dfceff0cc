use Rattle.tc_table.specs.Wholes.{got_part}
use Rattle.tc_table.proofs.side.value_of.Goals as goal

pub returns-clause-part : goal.returns-clause-part
returns-clause-part c = got_part _ _ _ c.get.ensures.value c.get.ensures.row
