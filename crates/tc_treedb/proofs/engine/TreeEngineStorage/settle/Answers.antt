use Rattle.std.proofs.Common.{refl}
use Rattle.tc_hash.proofs.Stored.{from_done}
use Rattle.tc_hashdb.specs.Laying.{both_done}
use Rattle.tc_treedb.specs.Lifting.{means_of, ready_down, refused_up}
use Rattle.tc_treedb.proofs.Settled.{settles_up}
use Rattle.tc_treedb.proofs.engine.TreeEngineStorage.settle.Goals as goal

pub settle-requires : goal.settle-requires
settle-requires g c = ready_down g.S.Space c.args.self.now c.args.space.now c.requires.ready

pub returns-clause-packs : goal.returns-clause-packs
returns-clause-packs g c = from_done c.settle.result c.settle.ensures.packs (λ packs. λ from form d tight h. packs (from 0) form h.1.held tight (means_of g.S.Space _ _ d h))

pub returns-clause-settled : goal.returns-clause-settled
returns-clause-settled g c = both_done c.settle.result c.settle.ensures.settled c.settle.ensures.stands (λ settled stands. settles_up g.S.Space c.args.self.now (record c.args.self.now { kept = c.settle.new.self }) c.args.space.now c.settle.new.space refl settled stands)

pub returns-clause-trims : goal.returns-clause-trims
returns-clause-trims g c = from_done c.settle.result c.settle.ensures.trims (λ trims. λ d h. trims h.1.held (means_of g.S.Space _ _ d h))

pub returns-clause-refused : goal.returns-clause-refused
returns-clause-refused g c = refused_up g.S.Space c.settle.result c.args.self.now (record c.args.self.now { kept = c.settle.new.self }) _ _ c.settle.ensures.refused refl
