use Rattle.tc_hash.proofs.Filled.{none_filled}
use Rattle.tc_hash.proofs.Numbered.{shaped_map}
use Rattle.tc_hash.proofs.Stored.{from_done}
use Rattle.tc_hash.proofs.mapping.HashRecords.clear.Goals as goal

pub returns-clause-fills : goal.returns-clause-fills
returns-clause-fills g c = from_done _ c.clear.ensures.made (λ made. none_filled c.clear.new.self made.nothing made.is_new.least made.ends)

pub returns-clause-stays : goal.returns-clause-stays
returns-clause-stays g c = shaped_map c.args.self.now c.clear.new.self c.clear.ensures.stays c.clear.ensures.shape
