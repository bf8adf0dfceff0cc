use Rattle.std.proofs.Common.{refl}
use Rattle.tc_hash.proofs.Stored.{from_done}
use Rattle.tc_hashdb.specs.Laying.{both_done}
use Rattle.tc_treedb.specs.Lifting.{means_of, ready_down, refused_up}
use Rattle.tc_treedb.proofs.Settled.{forms_up, lacks_up, remains_up}
use Rattle.tc_treedb.proofs.engine.TreeEngineStorage.pack.Goals as goal

pub pack-requires : goal.pack-requires
pack-requires g c = ready_down g.S.Space c.args.self.now c.args.space.now c.requires.ready

pub returns-clause-tight : goal.returns-clause-tight
returns-clause-tight g c = from_done c.pack.result c.pack.ensures.tight (λ tight. λ d h. tight h.1.held (means_of g.S.Space _ _ d h))

pub returns-clause-packed : goal.returns-clause-packed
returns-clause-packed g c = from_done c.pack.result c.pack.ensures.packed (λ packed. remains_up g.S.Space c.args.self.now (record c.args.self.now { kept = c.pack.new.self }) c.args.space.now c.pack.new.space refl packed)

pub returns-clause-formed : goal.returns-clause-formed
returns-clause-formed g c = both_done c.pack.result c.pack.ensures.packed c.pack.ensures.formed (λ packed formed. forms_up g.S.Space c.args.form c.args.self.now (record c.args.self.now { kept = c.pack.new.self }) c.args.space.now c.pack.new.space packed formed)

pub returns-clause-refused : goal.returns-clause-refused
returns-clause-refused g c = refused_up g.S.Space c.pack.result c.args.self.now (record c.args.self.now { kept = c.pack.new.self }) _ _ c.pack.ensures.refused refl

pub returns-clause-full : goal.returns-clause-full
returns-clause-full g c = λ full d h. lacks_up g.S.Space c.args.form c.args.self.now c.args.space.now c.pack.new.space (c.pack.ensures.full full) d h
