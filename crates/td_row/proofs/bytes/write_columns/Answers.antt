use Rattle.tc_base.specs.Lists.{pair}
use Rattle.td_row.proofs.Written.{row_written}
use Rattle.td_row.proofs.bytes.write_columns.Goals as goal

pub loop-i-preserved : goal.loop-i-preserved
loop-i-preserved c = row_written c.args.into.now c.loop-i.into c.write_column.new.into c.args.row.now c.loop-i.i (pair c.at.result.0.now c.at.result.1.now) c.at.ensures c.loop-i.invariant c.in_ok-write_column.ensures.ok
