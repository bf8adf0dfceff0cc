use Rattle.tc_hash.proofs.Stored.{both_ok}
use Rattle.tc_hash.proofs.Repacked.{packed_tight}
use Rattle.tc_hash.proofs.Numbered.{packs_map}
use Rattle.tc_hash.proofs.mapping.HashRecords.pack.Goals as goal

pub returns-clause-tight : goal.returns-clause-tight
returns-clause-tight g c = both_ok c.pack.result (λ packed packs. packed_tight g.S.Space c.args.form c.args.self.now c.pack.new.self c.args.space.now c.pack.new.space packed c.pack.ensures.stays.map.file packs) c.pack.ensures.packed c.pack.ensures.packs

pub returns-clause-stays : goal.returns-clause-stays
returns-clause-stays g c = packs_map g.S.Space c.args.form c.args.self.now c.pack.new.self c.args.space.now c.pack.new.space _ c.pack.ensures.stays c.pack.ensures.packs c.pack.ensures.left
