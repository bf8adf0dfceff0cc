use Rattle.std.proofs.Common.{refl}
use Rattle.bt_page.proofs.Runs.{err_handed}
use Rattle.bt_tree.proofs.Climbings.{grown_height, noted_root, way_ready}
use Rattle.bt_tree.proofs.Divisions.{gives_node, grown, lacks_root}
use Rattle.bt_tree.proofs.Pagings.{noted_ready}
use Rattle.bt_tree.proofs.tree.Tree.grow.Goals as goal

pub put_node-requires-clause-ready : goal.put_node-requires-clause-ready
put_node-requires-clause-ready g c =
    noted_ready g.R.S.Space g.R.Records c.args.self.now c.node_id.new.self c.args.space.now _ c.in_ok-id.ensures.noted (gives_node c.args.self.now.head c.in_ok-id.ensures.small)
    (way_ready g.R.S.Space g.R.Records c.args.self.now c.args.self.now c.args.space.now c.args.self.now.path (record { all = refl; way = refl }) c.requires.ready)

pub returns-clause-climbed : goal.returns-clause-climbed
returns-clause-climbed g c =
    grown g.R.S.Space g.R.Records c.args.self.now c.node_id.new.self c.put_node.new.self _ c.args.space.now c.put_node.new.space c.in_ok-id.id c.node_id.new.self.head.root c.args.added c.requires.root c.requires.few
    c.in_ok-id.ensures.small c.in_ok-id.ensures.noted c.in_ok-id.ensures.given (noted_root c.args.self.now c.node_id.new.self c.in_ok-id.ensures.noted) (rw c.in_ok-node.ensures at c.in_ok-put_node.ensures.put) refl refl refl refl
    (grown_height c.args.self.now c.node_id.new.self c.in_ok-id.ensures.noted c.put_node.ensures.still.height) c.put_node.ensures.still.head

pub returns-in_err-put_node-clause-full : goal.returns-in_err-put_node-clause-full
returns-in_err-put_node-clause-full g c = λ is.
    lacks_root g.R.S.Space g.R.Records c.args.self.now c.node_id.new.self c.args.space.now c.put_node.new.space c.in_ok-id.id c.node_id.new.self.head.root c.args.added c.in_ok-id.ensures.given c.in_ok-id.ensures.noted (gives_node c.args.self.now.head c.in_ok-id.ensures.small) c.requires.few (noted_root c.args.self.now c.node_id.new.self c.in_ok-id.ensures.noted)
    (rw c.in_ok-node.ensures at (c.in_err-put_node.ensures.full (err_handed c.from_residual-in_err-put_node.result _ _ c.from_residual-in_err-put_node.ensures.1 is)))
