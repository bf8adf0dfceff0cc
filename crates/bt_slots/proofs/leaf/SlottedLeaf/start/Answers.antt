use Rattle.std.proofs.Common.{◌∙◌, arith}
use Rattle.bt_slots.proofs.Places.{seen, starts_count, end_is, place_is}
use Rattle.bt_slots.proofs.leaf.SlottedLeaf.start.Goals as goal

pub returns-then-place-len : goal.returns-then-place-len
returns-then-place-len c =
    let h = seen c.self.inside.bytes c.self.inside.starts.items c.args.self.now c.self.view_is c.self.invariant in
    let e = starts_count c.self.inside.bytes c.self.inside.starts.items c.args.self.now h in
    c.len-then-place-len.ensures ∙ end_is c.self.inside.bytes c.self.inside.starts.items c.args.self.now h c.args.place (omega (arith, e, c.if-place-len.true, c.len.ensures))

pub index-requires : goal.index-requires
index-requires c =
    let h = seen c.self.inside.bytes c.self.inside.starts.items c.args.self.now c.self.view_is c.self.invariant in
    omega (arith, starts_count c.self.inside.bytes c.self.inside.starts.items c.args.self.now h, c.if-place-len.false, c.len.ensures)

pub returns : goal.returns
returns c =
    let h = seen c.self.inside.bytes c.self.inside.starts.items c.args.self.now c.self.view_is c.self.invariant in
    let e = starts_count c.self.inside.bytes c.self.inside.starts.items c.args.self.now h in
    c.index.ensures ∙ place_is c.self.inside.bytes c.self.inside.starts.items c.args.self.now h c.args.place c.index.result.now (omega (arith, e, c.if-place-len.false, c.len.ensures))
