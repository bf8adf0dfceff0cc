use Rattle.bt_slots.proofs.Cuts.{section_ends}
use Rattle.bt_slots.proofs.leaf.SlottedLeaf.section_len.Goals as goal

pub overflow_sub-result : goal.overflow_sub-result
overflow_sub-result c = (section_ends c.args.self.now c.args.from c.args.to _ _ c.requires.0 c.start-2.ensures c.start.ensures).0

pub returns : goal.returns
returns c = (section_ends c.args.self.now c.args.from c.args.to _ _ c.requires.0 c.start-2.ensures c.start.ensures).1
