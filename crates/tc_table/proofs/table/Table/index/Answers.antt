use Rattle.std.specs.Option.{option_copied}
use Rattle.tc_space.specs.Frames.{keeps_then}
use Rattle.tc_table.proofs.Turning.{full_as}
use Rattle.tc_table.proofs.table.Table.index.Goals as goal

pub returns-in-Err-clause-keeps : goal.returns-in-Err-clause-keeps
returns-in-Err-clause-keeps g c = keeps_then g.R.S.Space c.args.space.now c.change_all.new.space c.give_up.new.space c.change_all.ensures.keeps c.give_up.ensures.keeps

pub returns-in-Err-clause-full : goal.returns-in-Err-clause-full
returns-in-Err-clause-full g c = λ full. record { refused = c.change_all.new.space; met = full_as g.R.S.Space g.L.Multi g.D.Multi g.L.O.Order.cmp g.D.O.Order.cmp c.as_mut_slice.result.now c.args.self.now.sides.items c.args.key.now (option_copied c.args.old) (option_copied c.args.new) c.args.space.now c.change_all.new.space c.as_mut_slice.ensures.value (c.in-Err.ensures.full full); given_up = c.give_up.ensures }
