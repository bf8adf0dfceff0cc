use Rattle.std.proofs.Common.{refl}
use Rattle.tc_hash.specs.Keeping.{at_most, lead_of}
use Rattle.tc_hash.proofs.Tight.{tight_same}
use Rattle.tc_hash.proofs.mapping.HashRecords.set_opaque.Goals as goal

pub returns-clause-sets : goal.returns-clause-sets
returns-clause-sets g c = record { file = refl; sort_same = refl; numbers_same = refl; region_is = refl; leads = at_most (lead_of c.args.self.now) (lead_of c.args.self.now) refl; gets_same = refl }

pub returns-clause-tight : goal.returns-clause-tight
returns-clause-tight g c = tight_same c.args.self.now.body _ refl
