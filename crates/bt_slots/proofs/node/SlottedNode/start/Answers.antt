use Rattle.std.proofs.Common.{◌∙◌, arith}
use Rattle.bt_slots.proofs.NodeChanges.{entries_end}
use Rattle.bt_slots.proofs.NodePlaces.{seen_node, entries_count, entry_start}
use Rattle.bt_slots.proofs.node.SlottedNode.start.Goals as goal

pub returns-then-place-len : goal.returns-then-place-len
returns-then-place-len c =
    let h = seen_node c.self.inside.bytes c.self.inside.starts.items c.args.self.now c.self.view_is c.self.invariant in
    let e = entries_count c.self.inside.bytes c.self.inside.starts.items c.args.self.now h in
    c.len-then-place-len.ensures ∙ entries_end c.args.self.now c.self.inside.bytes c.args.place h.is (omega (arith, e, c.if-place-len.true, c.len.ensures))

pub index-requires : goal.index-requires
index-requires c =
    let h = seen_node c.self.inside.bytes c.self.inside.starts.items c.args.self.now c.self.view_is c.self.invariant in
    omega (arith, entries_count c.self.inside.bytes c.self.inside.starts.items c.args.self.now h, c.requires, c.if-place-len.false, c.len.ensures)

pub returns : goal.returns
returns c =
    let h = seen_node c.self.inside.bytes c.self.inside.starts.items c.args.self.now c.self.view_is c.self.invariant in
    let e = entries_count c.self.inside.bytes c.self.inside.starts.items c.args.self.now h in
    c.index.ensures ∙ entry_start c.self.inside.bytes c.self.inside.starts.items c.args.self.now h c.args.place c.index.result.now (omega (arith, e, c.requires, c.if-place-len.false, c.len.ensures))
