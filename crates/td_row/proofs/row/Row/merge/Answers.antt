use Rattle.tc_base.specs.Lists.{pair}
use Rattle.td_row.proofs.Lacking.{column_at_place, lacking_more}
use Rattle.td_row.proofs.row.Row.merge.Goals as goal

pub put_lacking-requires : goal.put_lacking-requires
put_lacking-requires c = column_at_place c.args.more.now c.loop-i.i (pair c.at.result.0.now c.at.result.1.now) c.at.ensures c.len-i-end.ensures.row

pub loop-i-preserved : goal.loop-i-preserved
loop-i-preserved c = lacking_more c.args.self c.args.more.now c.loop-i.row c.put_lacking.new.self c.loop-i.i (pair c.at.result.0.now c.at.result.1.now) c.at.ensures c.len-i-end.ensures.row.distinct c.loop-i.invariant c.in_ok-put_lacking.ensures
