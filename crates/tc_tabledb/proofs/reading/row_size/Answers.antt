use Rattle.std.proofs.Common.{◌≤◌, length, arith}
use Rattle.tc_tabledb.proofs.Read.{column_sized, row_sized}
use Rattle.tc_tabledb.proofs.reading.row_size.Goals as goal

pub loop-i-preserved : goal.loop-i-preserved
loop-i-preserved c = column_sized c.args.row.now c.loop-i.i c.loop-i.total c.in_ok-total.total c.at.result.0.now c.at.result.1.now c.at.ensures c.loop-i.invariant c.in_ok-total.ensures

pub returns : goal.returns
returns c =
    let all : length c.args.row.now ≤ c.loop-i.i = omega arith in
    row_sized c.args.row.now c.loop-i.i c.loop-i.total all c.loop-i.invariant
