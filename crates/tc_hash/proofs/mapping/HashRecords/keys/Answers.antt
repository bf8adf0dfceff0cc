use Rattle.std.proofs.Common.{ap}
use Rattle.tc_hash.proofs.Tight.{tight_same}
use Rattle.tc_hash.specs.declared.hash.Hash.{Hash}
use Rattle.tc_hash.proofs.Numbered.{stays_map}
use Rattle.tc_hash.proofs.mapping.HashRecords.keys.Goals as goal

pub returns-clause-tight : goal.returns-clause-tight
returns-clause-tight g c = tight_same c.args.self.now.body c.keys.new.self.body (ap (λ (h : Hash _). h.body) c.keys.ensures.same)

pub returns-clause-stays : goal.returns-clause-stays
returns-clause-stays g c = stays_map c.args.self.now c.keys.new.self c.keys.ensures.stays
