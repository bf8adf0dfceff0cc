use Rattle.bt_slots.proofs.BareReads.{count_is}
use Rattle.bt_slots.proofs.bare.BareLeaf.len.Goals as goal

pub returns : goal.returns
returns c = count_is c.self.inside.bytes c.self.inside.count c.args.self.now c.self.view_is c.self.invariant
