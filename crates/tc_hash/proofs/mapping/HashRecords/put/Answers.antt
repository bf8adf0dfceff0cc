use Rattle.tc_hash.proofs.Answered.{puts_of}
use Rattle.tc_hash.proofs.Filled.{filled_more}
use Rattle.tc_hash.proofs.Stored.{from_done, full_put}
use Rattle.tc_hash.proofs.Numbered.{stays_map}
use Rattle.tc_hash.proofs.mapping.HashRecords.put.Goals as goal

pub returns-clause-put : goal.returns-clause-put
returns-clause-put g c = from_done _ c.put.ensures.put (λ given. puts_of g.S.Space c.args.mode c.args.key.now c.args.value.now c.args.self.now c.put.new.self c.args.space.now c.put.new.space given)

pub returns-clause-fills : goal.returns-clause-fills
returns-clause-fills g c = from_done _ c.put.ensures.put (λ given. filled_more g.S.Space c.args.mode c.args.key.now c.args.value.now c.args.self.now c.put.new.self c.args.space.now c.put.new.space c.put.ensures.stays.head given.1)

pub returns-clause-full : goal.returns-clause-full
returns-clause-full g c = λ full. full_put g.S.Space c.args.mode c.args.key.now c.args.value.now c.args.self.now c.args.space.now c.put.new.space (c.put.ensures.full full)

pub returns-clause-stays : goal.returns-clause-stays
returns-clause-stays g c = stays_map c.args.self.now c.put.new.self c.put.ensures.stays
