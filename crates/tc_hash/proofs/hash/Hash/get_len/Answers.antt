use Rattle.tc_hash.proofs.Records.{can_change, looks_again}
use Rattle.tc_hash.proofs.hash.Hash.get_len.Goals as goal

pub value_len-requires : goal.value_len-requires
value_len-requires g c = can_change g.S.Space c.args.self.now c.args.space.now c.requires

pub returns-clause-len : goal.returns-clause-len
returns-clause-len g c = λ m w. c.in_ok-value_len.ensures.len w.0 m w.1.map.has

pub returns-clause-looks : goal.returns-clause-looks
returns-clause-looks g c = looks_again g.S.Space c.args.self.now c.args.space.now c.value_len.new.space c.value_len.ensures.reads

pub returns-in_err-value_len-clause-looks : goal.returns-in_err-value_len-clause-looks
returns-in_err-value_len-clause-looks g c = looks_again g.S.Space c.args.self.now c.args.space.now c.value_len.new.space c.value_len.ensures.reads

pub returns-clause-within : goal.returns-clause-within
returns-clause-within g c = λ m w. c.value_len.ensures.within w.0 m w.1.map.has

pub returns-in_err-value_len-clause-within : goal.returns-in_err-value_len-clause-within
returns-in_err-value_len-clause-within g c = λ m w. c.value_len.ensures.within w.0 m w.1.map.has
