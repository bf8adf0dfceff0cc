use Rattle.tc_space.specs.Frames.{keeps_then}
use Rattle.tc_table.proofs.table.Table.pack_sides.Goals as goal

pub returns-in-Err-clause-keeps : goal.returns-in-Err-clause-keeps
returns-in-Err-clause-keeps g c = keeps_then g.R.S.Space c.args.space.now c.pack_all.new.space c.give_up.new.space c.pack_all.ensures.keeps c.give_up.ensures.keeps
