use Rattle.tc_space.specs.Frames.{keeps_then}
use Rattle.tc_table.proofs.table.Table.add_index.Goals as goal

pub take_in-requires-clause-ready : goal.take_in-requires-clause-ready
take_in-requires-clause-ready g c = c.requires.ready

pub take_in-requires-clause-new : goal.take_in-requires-clause-new
take_in-requires-clause-new g c = c.requires.new

pub returns-in-Err-clause-keeps : goal.returns-in-Err-clause-keeps
returns-in-Err-clause-keeps g c = keeps_then g.R.S.Space c.args.space.now c.take_in.new.space c.give_up.new.space c.take_in.ensures.keeps c.give_up.ensures.keeps

pub returns-in-Err-clause-full : goal.returns-in-Err-clause-full
returns-in-Err-clause-full g c = λ full. record { refused = c.take_in.new.space; met = c.in-Err.ensures.full full; given_up = c.give_up.ensures }
