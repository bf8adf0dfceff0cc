use Rattle.std.proofs.Common.{◌∙◌, ap, arith, length, drop}
use Rattle.bt_slots.proofs.NodePlaces.{seen_node, entries_count, entry_within, entry_behind}
use Rattle.bt_slots.proofs.node.SlottedNode.from_entry.Goals as goal

pub index-requires : goal.index-requires
index-requires c =
    let h = seen_node c.self.inside.bytes c.self.inside.starts.items c.args.self.now c.self.view_is c.self.invariant in
    omega (arith, c.requires, entries_count c.self.inside.bytes c.self.inside.starts.items c.args.self.now h)

pub rest_from-requires : goal.rest_from-requires
rest_from-requires c =
    let h = seen_node c.self.inside.bytes c.self.inside.starts.items c.args.self.now c.self.view_is c.self.invariant in
    omega (arith, c.index.ensures, ap length c.as_slice.ensures, entry_within c.self.inside.bytes c.self.inside.starts.items c.args.self.now h c.args.place c.index.result.now c.requires)

pub returns-clause-is : goal.returns-clause-is
returns-clause-is c = λ e is.
    let h = seen_node c.self.inside.bytes c.self.inside.starts.items c.args.self.now c.self.view_is c.self.invariant in
    c.rest_from.ensures.is ∙ (λ i. drop (c.index.ensures i) (c.as_slice.ensures i)) ∙ entry_behind c.self.inside.bytes c.self.inside.starts.items c.args.self.now h c.args.place c.index.result.now e c.requires is
