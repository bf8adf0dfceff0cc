use Rattle.std.proofs.Common.{refl}
use Rattle.tc_hash.proofs.Stored.{from_done, from_refused}
use Rattle.tc_hashdb.specs.Lifting.{ready_down}
use Rattle.tc_hashdb.proofs.Kept.{ready_hash}
use Rattle.tc_hashdb.proofs.Settled.{settle_packs, settle_refused, settle_trims, settled_up}
use Rattle.tc_hashdb.proofs.engine.HashEngineStorage.settle.Goals as goal

pub settle-requires : goal.settle-requires
settle-requires g c = ready_hash g.S.Space c.args.self.now c.args.space.now (ready_down g.S.Space c.args.self.now c.args.space.now c.requires.ready)

pub returns-clause-packs : goal.returns-clause-packs
returns-clause-packs g c = from_done _ c.settle.ensures.settled (λ settles. settle_packs g.S.Space c.args.self.now c.settle.new.self c.args.space.now c.settle.new.space c.settle.ensures.stays.head c.settle.ensures.trimmed.dropped settles)

pub returns-clause-trims : goal.returns-clause-trims
returns-clause-trims g c = from_done _ c.settle.ensures.settled (λ settles. settle_trims g.S.Space c.args.self.now c.settle.new.self c.args.space.now c.settle.new.space c.settle.ensures.stays c.settle.ensures.trimmed.dropped settles.brought (λ t. (settles.front t).long))

pub returns-clause-settled : goal.returns-clause-settled
returns-clause-settled g c = from_done _ c.settle.ensures.settled (λ settles. settled_up g.S.Space c.args.self.now (record c.args.self.now { hash = c.settle.new.self }) c.args.space.now c.settle.new.space c.settle.ensures.stays.map.file c.settle.ensures.stays.head refl settles)

pub returns-clause-refused : goal.returns-clause-refused
returns-clause-refused g c = from_refused _ c.settle.ensures.refused (λ refused. settle_refused g.S.Space c.args.self.now (record c.args.self.now { hash = c.settle.new.self }) c.args.space.now c.settle.new.space c.settle.ensures.stays refl refused)
