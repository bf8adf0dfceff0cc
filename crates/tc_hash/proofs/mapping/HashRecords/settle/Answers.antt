use Rattle.tc_hash.proofs.Ended.{settled_trims}
use Rattle.tc_hash.proofs.Packed.{settled_same, settled_stands}
use Rattle.tc_hash.proofs.Repacked.{settled_packs}
use Rattle.tc_hash.proofs.Stored.{from_done}
use Rattle.tc_hash.proofs.Numbered.{stays_map}
use Rattle.tc_hash.proofs.mapping.HashRecords.settle.Goals as goal

pub returns-clause-settled : goal.returns-clause-settled
returns-clause-settled g c = from_done _ c.settle.ensures.settled (λ done. settled_same g.S.Space c.args.self.now c.settle.new.self c.args.space.now c.settle.new.space c.settle.ensures.stays.map.file done)

pub returns-clause-stands : goal.returns-clause-stands
returns-clause-stands g c = from_done _ c.settle.ensures.settled (λ done. settled_stands g.S.Space c.args.self.now c.settle.new.self c.args.space.now c.settle.new.space c.settle.ensures.stays.head c.settle.ensures.stays.map.region_same done)

pub returns-clause-packs : goal.returns-clause-packs
returns-clause-packs g c = from_done _ c.settle.ensures.settled (λ done. settled_packs g.S.Space c.args.self.now c.settle.new.self c.args.space.now c.settle.new.space c.settle.ensures.stays.head c.settle.ensures.trimmed.dropped done)

pub returns-clause-trims : goal.returns-clause-trims
returns-clause-trims g c = from_done _ c.settle.ensures.settled (λ done. settled_trims g.S.Space c.args.self.now c.settle.new.self c.args.space.now c.settle.new.space c.settle.ensures.trimmed.dropped done)

pub returns-clause-stays : goal.returns-clause-stays
returns-clause-stays g c = stays_map c.args.self.now c.settle.new.self c.settle.ensures.stays
