use Rattle.std.proofs.Common.{◌∙◌}
use Rattle.td_index.proofs.Standing.{gained}
use Rattle.td_index.proofs.index.put_entry.Goals as goal

pub returns-clause-put : goal.returns-clause-put
returns-clause-put g c = gained g.M.S.Space g.M.Multi g.M.O.Order.cmp g.met.M.O.Order.total g.met.M.O.Order.exact c.args.tree.now c.putdup.new.self c.args.space.now c.putdup.new.space c.args.part.now c.args.key.now c.as_slice.result.now (c.as_slice.ensures ∙ c.in_ok-entry.ensures) c.requires.whole c.in_ok-putdup.ensures.put
