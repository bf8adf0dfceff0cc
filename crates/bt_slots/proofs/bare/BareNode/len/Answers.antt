use Rattle.bt_slots.proofs.BareReads.{entries_are}
use Rattle.bt_slots.proofs.bare.BareNode.len.Goals as goal

pub returns : goal.returns
returns c = entries_are c.self.inside.bytes c.self.inside.count c.args.self.now c.self.view_is c.self.invariant
