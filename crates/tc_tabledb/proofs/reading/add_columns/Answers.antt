use Rattle.std.proofs.Common.{◌≤◌, length, arith}
use Rattle.tc_engine.specs.Rows.{adds_nothing, extends_refl, extends_then}
use Rattle.tc_tabledb.proofs.Read.{column_added, columns_added}
use Rattle.tc_tabledb.proofs.reading.add_columns.Goals as goal

pub loop-i-init : goal.loop-i-init
loop-i-init c = record { added = adds_nothing c.args.into.now; front = extends_refl c.args.into.now }

pub loop-i-preserved : goal.loop-i-preserved
loop-i-preserved c = record {
  added = column_added c.args.into.now c.loop-i.into c.add_items.new.rows c.args.row.now c.loop-i.i c.at.result.0.now c.at.result.1.now c.at.ensures c.loop-i.invariant.added c.in_ok-add_items.ensures.rows;
  front = extends_then c.args.into.now c.loop-i.into c.add_items.new.rows c.loop-i.invariant.front c.add_items.ensures.front;
}

pub returns-clause-added : goal.returns-clause-added
returns-clause-added c =
    let all : length c.args.row.now ≤ c.loop-i.i = omega arith in
    columns_added c.args.into.now c.loop-i.into c.args.row.now c.loop-i.i all c.loop-i.invariant.added
