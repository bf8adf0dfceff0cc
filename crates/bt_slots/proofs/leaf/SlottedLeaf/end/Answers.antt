use Rattle.std.proofs.Common.{◌∙◌, arith, ◌+◌}
use Rattle.bt_slots.proofs.Places.{seen, starts_count, end_is, place_is}
use Rattle.bt_slots.proofs.leaf.SlottedLeaf.end.Goals as goal

pub returns-then-place-last : goal.returns-then-place-last
returns-then-place-last c =
    let h = seen c.self.inside.bytes c.self.inside.starts.items c.args.self.now c.self.view_is c.self.invariant in
    c.len.ensures ∙ end_is c.self.inside.bytes c.self.inside.starts.items c.args.self.now h (c.args.place + 1) (omega (arith, c.if-place-last.true, c.len-last.ensures, c.requires))

pub index-requires : goal.index-requires
index-requires c =
    let h = seen c.self.inside.bytes c.self.inside.starts.items c.args.self.now c.self.view_is c.self.invariant in
    omega (arith, starts_count c.self.inside.bytes c.self.inside.starts.items c.args.self.now h, c.if-place-last.false, c.len-last.ensures, c.requires)

pub returns : goal.returns
returns c =
    let h = seen c.self.inside.bytes c.self.inside.starts.items c.args.self.now c.self.view_is c.self.invariant in
    c.index.ensures ∙ place_is c.self.inside.bytes c.self.inside.starts.items c.args.self.now h (c.args.place + 1) c.index.result.now (omega (arith, c.if-place-last.false, c.len-last.ensures, c.requires))
