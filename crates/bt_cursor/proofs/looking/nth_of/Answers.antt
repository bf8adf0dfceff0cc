use Rattle.bt_cursor.proofs.Lookings.{looks_of}
use Rattle.bt_cursor.proofs.looking.nth_of.Goals as goal

pub returns-clause-looks : goal.returns-clause-looks
returns-clause-looks g c =
    looks_of g.R.S.Space g.R.Records g.O.Order c.args.tree.now c.nth_value.new.self c.args.space.now c.nth_value.new.space c.args.tree.now.height c.new-steps.result c.nth_value.new.steps c.new-steps.ensures c.nth_value.ensures.asks
