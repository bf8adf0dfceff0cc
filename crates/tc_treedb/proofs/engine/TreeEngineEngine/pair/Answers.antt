use Rattle.std.proofs.Common.{refl}
use Rattle.tc_treedb.specs.Lifting.{ready_down, reads_up}
use Rattle.tc_treedb.proofs.Rowed.{pair_up}
use Rattle.tc_treedb.proofs.engine.TreeEngineEngine.pair.Goals as goal

pub add_first-requires : goal.add_first-requires
add_first-requires g c = ready_down g.S.Space c.args.self.now c.args.space.now c.requires

pub returns-in_err-_held-clause-reads : goal.returns-in_err-_held-clause-reads
returns-in_err-_held-clause-reads g c = reads_up g.S.Space _ _ _ _ c.add_first.ensures.looks.reads refl

pub returns-clause-rows : goal.returns-clause-rows
returns-clause-rows g c = λ d h. pair_up g.S.Space c.args.self.now c.args.space.now c.args.key.now c.as_slice.result.now _ _ _ c.as_slice.ensures c.in_ok-_held.ensures.added d h

pub returns-clause-reads : goal.returns-clause-reads
returns-clause-reads g c = reads_up g.S.Space _ _ _ _ c.add_first.ensures.looks.reads refl
