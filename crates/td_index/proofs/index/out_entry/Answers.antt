use Rattle.std.proofs.Common.{◌∙◌}
use Rattle.td_index.proofs.Standing.{lost}
use Rattle.td_index.proofs.index.out_entry.Goals as goal

pub returns-clause-out : goal.returns-clause-out
returns-clause-out g c = lost g.M.S.Space g.M.Multi g.M.O.Order.cmp g.met.M.O.Order.total g.met.M.O.Order.exact c.args.tree.now c.out.new.self c.args.space.now c.out.new.space c.args.part.now c.args.key.now c.as_slice.result.now c.in_ok-out.field-0 (c.as_slice.ensures ∙ c.in_ok-entry.ensures) c.requires.whole c.in_ok-out.ensures.out
