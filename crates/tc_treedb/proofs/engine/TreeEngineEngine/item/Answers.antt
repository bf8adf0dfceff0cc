use Rattle.std.proofs.Common.{refl}
use Rattle.tc_treedb.specs.Lifting.{ready_down, reads_up}
use Rattle.tc_treedb.proofs.Rowed.{item_all}
use Rattle.tc_treedb.proofs.engine.TreeEngineEngine.item.Goals as goal

pub add_first-requires : goal.add_first-requires
add_first-requires g c = ready_down g.S.Space c.args.self.now c.args.space.now c.requires

pub returns-clause-value : goal.returns-clause-value
returns-clause-value g c = item_all g.S.Space c.add_first.result c.args.self.now c.args.space.now c.args.key.now c.as_slice.result.now c.args.into.now c.add_first.new.into c.as_slice.ensures c.add_first.ensures.added

pub returns-clause-reads : goal.returns-clause-reads
returns-clause-reads g c = reads_up g.S.Space _ _ _ _ c.add_first.ensures.looks.reads refl
