use Rattle.tc_hash.proofs.Settled.{section_wrote}
use Rattle.tc_hash.proofs.Stored.{from_done}
use Rattle.tc_hash.proofs.settle.write_section.Goals as goal

pub returns-in-Some-clause-wrote : goal.returns-in-Some-clause-wrote
returns-in-Some-clause-wrote g c = from_done _ c.write_difference.ensures.wrote (λ write. section_wrote g.S.Space c.args.body.now c.args.old.now c.args.section.now c.in-Some.bytes c.as_slice.result.now c.section_place.result c.args.space.now c.write_difference.new.space c.in-Some.is c.as_slice.ensures c.section_place.ensures c.requires.under write)
