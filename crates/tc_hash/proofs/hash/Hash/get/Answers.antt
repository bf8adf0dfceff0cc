use Rattle.std.proofs.Common.{refl}
use Rattle.tc_hash.proofs.Records.{asked, can_change, looks_only}
use Rattle.tc_hash.proofs.Stored.{from_ok}
use Rattle.tc_hash.proofs.hash.Hash.get.Goals as goal

pub value-requires : goal.value-requires
value-requires g c = can_change g.S.Space c.args.self.now c.args.space.now c.requires

pub returns-clause-value : goal.returns-clause-value
returns-clause-value g c = from_ok _ c.value.ensures.value (λ found is. asked g.S.Space c.args.self.now c.args.space.now c.args.key.now found is)

pub returns-clause-looks : goal.returns-clause-looks
returns-clause-looks g c = looks_only g.S.Space c.args.self.now _ c.args.space.now c.value.new.space refl refl refl c.value.ensures.reads

pub returns-clause-within : goal.returns-clause-within
returns-clause-within g c = λ m w. c.value.ensures.within w.0 m w.1.map.has
