use Rattle.std.proofs.Common.{arith}
use Rattle.bt_slots.proofs.NodePlaces.{seen_node, entries_count}
use Rattle.bt_slots.proofs.node.SlottedNode.len.Goals as goal

pub returns : goal.returns
returns c =
    let h = seen_node c.self.inside.bytes c.self.inside.starts.items c.args.self.now c.self.view_is c.self.invariant in
    omega (arith, c.len.ensures, entries_count c.self.inside.bytes c.self.inside.starts.items c.args.self.now h)
