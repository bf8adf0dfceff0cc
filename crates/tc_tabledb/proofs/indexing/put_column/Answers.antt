use Rattle.std.proofs.Common.{Err, ap}
use Rattle.tc_tabledb.proofs.Made.{column_full, column_put}
use Rattle.tc_tabledb.proofs.indexing.put_column.Goals as goal

pub returns-in-Ok-clause-put : goal.returns-in-Ok-clause-put
returns-in-Ok-clause-put g c = column_put g.S.Space c.as_slice.result.now c.args.bytes.now c.args.hash.now c.put.new.self c.args.space.now c.put.new.space c.as_slice.ensures c.in-Ok.ensures.put

pub returns-in-Err-Full-clause-full : goal.returns-in-Err-Full-clause-full
returns-in-Err-Full-clause-full g c = λ full. column_full g.S.Space c.as_slice.result.now c.args.bytes.now c.args.hash.now c.args.space.now c.put.new.space c.as_slice.ensures (c.in-Err-Full.ensures.full (ap Err c.in-Err-Full.field-0-is))
