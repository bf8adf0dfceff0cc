use Rattle.hf_record.proofs.Valid.{has_fields, is_file}
use Rattle.tc_hash.proofs.open.held_open.Goals as goal

pub invariant_of-result-clause-data : goal.invariant_of-result-clause-data
invariant_of-result-clause-data g c = is_file c.args.file c.requires.file

pub invariant_of-result-clause-valid : goal.invariant_of-result-clause-valid
invariant_of-result-clause-valid g c = has_fields c.args.head c.requires.head
