use Rattle.std.proofs.Common.{◌∙◌}
use Rattle.tc_memstores.proofs.Overlaid.{new_last}
use Rattle.tc_memstores.proofs.cells.put_new.Goals as goal

pub returns-clause-held : goal.returns-clause-held
returns-clause-held c = new_last c.args.rows.now c.set.new.self c.args.key c.in_ok-held.held _ c.args.value.now c.in_ok-set.ensures.ok (c.in_ok-held.ensures ∙ c.as_slice.ensures)
