use Rattle.tc_hash.proofs.Tight.{tight_same}
use Rattle.tc_hash.proofs.mapping.HashRecords.get.Goals as goal

pub returns-clause-tight : goal.returns-clause-tight
returns-clause-tight g c = tight_same c.args.self.now.body c.get.new.self.body c.get.ensures.counts.body
