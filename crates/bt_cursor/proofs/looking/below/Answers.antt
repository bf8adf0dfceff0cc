use Rattle.std.proofs.Common.{◌+◌}
use Rattle.bt_tree.specs.Showing.{item_before}
use Rattle.bt_cursor.specs.Places.{end_of}
use Rattle.bt_cursor.specs.declared.takers.Ends.{Ends}
use Rattle.bt_cursor.proofs.Lookings.{item_seen, looks_of}
use Rattle.bt_cursor.proofs.looking.below.Goals as goal

pub returns-in_err-_held-clause-looks : goal.returns-in_err-_held-clause-looks
returns-in_err-_held-clause-looks g c =
    looks_of g.R.S.Space g.R.Records g.O.Order c.args.tree.now c.show_before.new.self c.args.space.now c.show_before.new.space (c.args.tree.now.height + 1) c.new-steps.result c.show_before.new.steps c.new-steps.ensures c.show_before.ensures.asks

pub returns-clause-looks : goal.returns-clause-looks
returns-clause-looks g c =
    looks_of g.R.S.Space g.R.Records g.O.Order c.args.tree.now c.show_before.new.self c.args.space.now c.show_before.new.space (c.args.tree.now.height + 1) c.new-steps.result c.show_before.new.steps c.new-steps.ensures c.show_before.ensures.asks

pub returns-clause-value : goal.returns-clause-value
returns-clause-value g c =
    item_seen _ end_of (λ (t : Ends). t.found) g.R.S.Space g.R.Records g.O.Order (item_before g.O.Order.cmp c.args.key.now) c.args.tree.now c.args.space.now _ _ c.in_ok-_held._held (λ t u x more k. k.0) c.ends-found.ensures c.in_ok-_held.ensures.shown
