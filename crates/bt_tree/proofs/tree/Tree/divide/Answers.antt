use Rattle.std.proofs.Common.{◌≡◌}
use Rattle.tc_space.specs.Stores.{ready_writes}
use Rattle.bt_page.proofs.Runs.{err_handed}
use Rattle.bt_tree.proofs.Divisions.{divided, gives_node, lacks_lower, lacks_upper}
use Rattle.bt_tree.proofs.Pagings.{noted_ready}
use Rattle.bt_tree.proofs.tree.Tree.divide.Goals as goal

pub put_node-requires-clause-ready : goal.put_node-requires-clause-ready
put_node-requires-clause-ready g c = noted_ready g.R.S.Space g.R.Records c.args.self.now c.node_id.new.self c.args.space.now _ c.in_ok-second.ensures.noted (gives_node c.args.self.now.head c.in_ok-second.ensures.small) c.requires.ready

pub returns-in_err-put_node-clause-full : goal.returns-in_err-put_node-clause-full
returns-in_err-put_node-clause-full g c = λ is.
    lacks_upper g.R.S.Space g.R.Records c.args.self.now c.node_id.new.self c.args.space.now c.put_node.new.space c.args.id c.in_ok-second.second c.args.node.heir c.args.node.entries c.in_ok-lower.lower.entries c.in_ok-lower.upper.entries c.in_ok-lower.up
    c.in_ok-second.ensures.given c.in_ok-second.ensures.noted (gives_node c.args.self.now.head c.in_ok-second.ensures.small) c.in_ok-lower.ensures.cut c.in_ok-lower.ensures.half c.in_ok-lower.ensures.child (c.in_err-put_node.ensures.full (err_handed c.from_residual-in_err-put_node.result _ _ c.from_residual-in_err-put_node.ensures.1 is))

pub put_node-requires-2-clause-ready : goal.put_node-requires-2-clause-ready
put_node-requires-2-clause-ready g c =
    ready_writes g.R.S.Space _ _ _ _ _ _ _ c.in_ok-put_node.ensures.put
    (noted_ready g.R.S.Space g.R.Records c.args.self.now c.node_id.new.self c.args.space.now _ c.in_ok-second.ensures.noted (gives_node c.args.self.now.head c.in_ok-second.ensures.small) c.requires.ready)

pub returns-clause-divided : goal.returns-clause-divided
returns-clause-divided g c =
    let low : c.in_ok-lower.lower ≡ record { heir = c.args.node.heir; entries = c.in_ok-lower.lower.entries } = λ i. record { heir = c.in_ok-lower.ensures.heir i; entries = c.in_ok-lower.lower.entries } in
    let high : c.in_ok-lower.upper ≡ record { heir = c.in_ok-lower.up.child; entries = c.in_ok-lower.upper.entries } = λ i. record { heir = c.in_ok-lower.ensures.child i; entries = c.in_ok-lower.upper.entries } in
    divided g.R.S.Space g.R.Records c.args.self.now c.node_id.new.self c.put_node.new.self c.put_node-2.new.self c.args.space.now c.put_node.new.space c.put_node-2.new.space c.args.id c.in_ok-second.second c.args.node.heir
    c.args.node.entries c.in_ok-lower.lower.entries c.in_ok-lower.upper.entries c.in_ok-lower.up c.in_ok-above.above c.in_ok-second.ensures.small c.in_ok-second.ensures.noted c.in_ok-second.ensures.given c.in_ok-lower.ensures.cut c.in_ok-lower.ensures.half c.in_ok-above.ensures
    (rw high at c.in_ok-put_node.ensures.put) (rw low at c.in_ok-put_node-2.ensures.put) c.put_node.ensures.still.made.file c.put_node.ensures.still.head c.put_node-2.ensures.still.head

pub returns-in_err-put_node-2-clause-full : goal.returns-in_err-put_node-2-clause-full
returns-in_err-put_node-2-clause-full g c = λ is.
    lacks_lower g.R.S.Space g.R.Records c.args.self.now c.node_id.new.self c.put_node.new.self c.args.space.now c.put_node.new.space c.put_node-2.new.space c.args.id c.in_ok-second.second c.args.node.heir c.args.node.entries c.in_ok-lower.lower.entries c.in_ok-lower.upper.entries c.in_ok-lower.up
    c.in_ok-second.ensures.given c.in_ok-second.ensures.noted (gives_node c.args.self.now.head c.in_ok-second.ensures.small) c.in_ok-lower.ensures.cut c.in_ok-lower.ensures.half c.in_ok-lower.ensures.heir c.in_ok-lower.ensures.child c.in_ok-put_node.ensures.put c.put_node.ensures.still (c.in_err-put_node-2.ensures.full (err_handed c.from_residual-in_err-put_node-2.result _ _ c.from_residual-in_err-put_node-2.ensures.1 is))
