use Rattle.std.proofs.Common.{arith, ap, length}
use Rattle.bt_slots.proofs.NodeChanges.{entries_within, entry_within, entry_may, entry_is_node}
use Rattle.bt_slots.proofs.NodePlaces.{seen_node, kept_node, entries_count}
use Rattle.bt_slots.proofs.ReadBack.{node_made}
use Rattle.bt_slots.proofs.node.SlottedNode.with_entry.Goals as goal

pub with_put-requires : goal.with_put-requires
with_put-requires c =
    let h = seen_node c.self.inside.bytes c.self.inside.starts.items c.args.self c.self.view_is c.self.invariant in
    omega (arith, c.start-from.ensures, ap length c.as_slice.ensures, entries_within c.args.self c.self.inside.bytes c.args.place h.is)

pub overflow_sub-to : goal.overflow_sub-to
overflow_sub-to c =
    let h = seen_node c.self.inside.bytes c.self.inside.starts.items c.args.self c.self.view_is c.self.invariant in
    omega (arith, c.start-from.ensures, c.len-2.ensures, entries_within c.args.self c.self.inside.bytes c.args.place h.is)

pub overflow_sub-to-2 : goal.overflow_sub-to-2
overflow_sub-to-2 c =
    let h = seen_node c.self.inside.bytes c.self.inside.starts.items c.args.self c.self.view_is c.self.invariant in
    omega (arith, c.len.ensures, c.len-2.ensures, (entry_within c.args.self c.args.place c.args.child c.args.key.now _ _ _ _ c.start-from.result h c.as_slice.ensures c.start-from.ensures c.in_ok-bytes.ensures.bytes).1)

pub inserted-requires-clause-inside : goal.inserted-requires-clause-inside
inserted-requires-clause-inside c =
    omega (arith, entries_count _ _ _ (seen_node c.self.inside.bytes c.self.inside.starts.items c.args.self c.self.view_is c.self.invariant), c.requires)

pub inserted-requires-clause-may : goal.inserted-requires-clause-may
inserted-requires-clause-may c =
    let h = seen_node c.self.inside.bytes c.self.inside.starts.items c.args.self c.self.view_is c.self.invariant in
    entry_may c.args.self c.args.place c.args.child c.args.key.now _ _ _ _ c.start-from.result h c.as_slice.ensures c.start-from.ensures c.in_ok-bytes.ensures.bytes _ (omega (arith, c.len.ensures, c.len-2.ensures)) (omega (arith, c.len.ensures))

pub invariant_of-result : goal.invariant_of-result
invariant_of-result c =
    let h = seen_node c.self.inside.bytes c.self.inside.starts.items c.args.self c.self.view_is c.self.invariant in
    kept_node _ _ _ (entry_is_node c.args.self c.args.place c.args.child c.args.key.now _ _ _ _ c.start-from.result h c.as_slice.ensures c.start-from.ensures c.in_ok-bytes.ensures.bytes _ _ c.ranges.child.fits c.in_ok-bytes.ensures.key (omega (arith, c.len.ensures, c.len-2.ensures)) c.in_ok-starts.ensures)

pub returns : goal.returns
returns c =
    let h = seen_node c.self.inside.bytes c.self.inside.starts.items c.args.self c.self.view_is c.self.invariant in
    node_made _ _ _ (entry_is_node c.args.self c.args.place c.args.child c.args.key.now _ _ _ _ c.start-from.result h c.as_slice.ensures c.start-from.ensures c.in_ok-bytes.ensures.bytes _ _ c.ranges.child.fits c.in_ok-bytes.ensures.key (omega (arith, c.len.ensures, c.len-2.ensures)) c.in_ok-starts.ensures)
