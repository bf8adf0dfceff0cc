use Rattle.std.proofs.Common.{arith}
use Rattle.tc_hash.proofs.KeysRead.{can_list, listed_keys}
use Rattle.tc_hash.proofs.Records.{looks_again}
use Rattle.tc_hash.proofs.Stored.{both_if_ok}
use Rattle.tc_hash.proofs.hash.Hash.keys.Goals as goal

pub list_keys-requires : goal.list_keys-requires
list_keys-requires g c = can_list g.S.Space c.args.self.now c.head_now-head.result c.args.space.now c.head_now-head.ensures (omega arith) (omega arith) c.requires

pub returns-clause-value : goal.returns-clause-value
returns-clause-value g c = both_if_ok _ (λ ks are order. listed_keys g.S.Space c.args.self.now c.head_now-head.result c.args.space.now c.head_now-head.ensures ks are order) c.list_keys.ensures.keys c.list_keys.ensures.order

pub returns-clause-reads : goal.returns-clause-reads
returns-clause-reads g c = looks_again g.S.Space c.args.self.now c.args.space.now c.list_keys.new.space c.list_keys.ensures.reads
