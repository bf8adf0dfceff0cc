use Rattle.std.proofs.Common.{arith}
use Rattle.bt_slots.proofs.Places.{seen, starts_count}
use Rattle.bt_slots.proofs.leaf.SlottedLeaf.len.Goals as goal

pub returns : goal.returns
returns c =
    let h = seen c.self.inside.bytes c.self.inside.starts.items c.args.self.now c.self.view_is c.self.invariant in
    omega (arith, c.len.ensures, starts_count c.self.inside.bytes c.self.inside.starts.items c.args.self.now h)
