use Rattle.std.proofs.Common.{◌∙◌, length, ap, arith}
use Rattle.tc_hash.proofs.Created.{head_written, new_written}
use Rattle.tc_hash.proofs.Stored.{from_done}
use Rattle.tc_hash.proofs.create.write_new.Goals as goal

pub write_zeros-requires-clause-reaches : goal.write_zeros-requires-clause-reaches
write_zeros-requires-clause-reaches g c = record { file = c.requires.empty.data_file; inside = λ t. omega (arith, ap length (head_written c.spelling.result _ _ (c.in_ok-write_at.ensures.wrote t).here (c.requires.empty.none t)), ap length c.spelling.ensures.bytes, c.spelling.ensures.long) }

pub returns-clause-wrote : goal.returns-clause-wrote
returns-clause-wrote g c = from_done _ c.write_zeros.ensures.wrote (λ wrote. new_written g.S.Space.tells g.S.Space.now c.args.file c.args.head.now c.spelling.result c.args.space.now c.write_at.new.space c.write_zeros.new.space c.spelling.ensures.bytes (ap length c.spelling.ensures.bytes ∙ c.spelling.ensures.long) c.requires.empty.none c.in_ok-write_at.ensures.wrote wrote)
