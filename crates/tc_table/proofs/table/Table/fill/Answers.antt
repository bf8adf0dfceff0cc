use Rattle.std.proofs.Common.{◌<◌, ◌≤◌, length, arith}
use Rattle.td_index.proofs.Handed.{err_handed}
use Rattle.tc_table.proofs.Added.{all_filled, filling_ready, filling_tree, full_row, more_filled, none_filled}
use Rattle.tc_table.proofs.Holding.{stays_then}
use Rattle.tc_table.proofs.Turning.{side_then}
use Rattle.tc_table.proofs.table.Table.fill.Goals as goal

pub loop-i-init : goal.loop-i-init
loop-i-init g c = none_filled g.R.S.Space g.R.Records g.L.Multi g.D.Multi c.args.row_keys.now c.args.side.now c.args.self.now c.args.space.now c.requires.sound c.requires.listed c.requires.new

pub add_row-requires-clause-ready : goal.add_row-requires-clause-ready
add_row-requires-clause-ready g c = filling_ready g.R.S.Space g.R.Records g.L.Multi g.D.Multi c.args.row_keys.now c.loop-i.i c.args.side.now c.loop-i.side c.args.self.now c.loop-i.self c.args.space.now c.loop-i.space c.loop-i.invariant

pub add_row-requires-clause-tree : goal.add_row-requires-clause-tree
add_row-requires-clause-tree g c = filling_tree g.R.S.Space g.R.Records g.L.Multi g.D.Multi c.args.row_keys.now c.loop-i.i c.args.side.now c.loop-i.side c.args.self.now c.loop-i.self c.args.space.now c.loop-i.space c.loop-i.invariant

pub add_row-requires-clause-away : goal.add_row-requires-clause-away
add_row-requires-clause-away g c = c.loop-i.invariant.away

pub loop-i-preserved : goal.loop-i-preserved
loop-i-preserved g c =
    let less : c.loop-i.i < length c.args.row_keys.now = omega arith in
    more_filled g.R.S.Space g.R.Records g.L.Multi g.D.Multi c.args.row_keys.now c.loop-i.i c.index-row_keys-i.result c.as_slice.result.now c.args.side.now c.loop-i.side c.add_row.new.side c.args.self.now c.loop-i.self c.add_row.new.self c.args.space.now c.loop-i.space c.add_row.new.space
    less c.index-row_keys-i.is c.as_slice.ensures c.loop-i.invariant c.in_ok-add_row.ensures.adds c.add_row.ensures.keeps c.add_row.ensures.stays c.add_row.ensures.side

pub returns-clause-fills : goal.returns-clause-fills
returns-clause-fills g c =
    let all : length c.args.row_keys.now ≤ c.loop-i.i = omega arith in
    all_filled g.R.S.Space g.R.Records g.L.Multi g.D.Multi c.args.row_keys.now c.loop-i.i c.args.side.now c.loop-i.side c.args.self.now c.loop-i.self c.args.space.now c.loop-i.space all c.loop-i.invariant

pub returns-in_err-add_row-clause-full : goal.returns-in_err-add_row-clause-full
returns-in_err-add_row-clause-full g c = λ is.
    let less : c.loop-i.i < length c.args.row_keys.now = omega arith in
    full_row g.R.S.Space g.R.Records g.L.Multi g.D.Multi g.L.O.Order.cmp g.D.O.Order.cmp c.args.row_keys.now c.loop-i.i c.index-row_keys-i.result c.as_slice.result.now c.args.side.now c.loop-i.side c.args.self.now c.loop-i.self c.args.space.now c.loop-i.space c.add_row.new.space less c.index-row_keys-i.is c.as_slice.ensures c.loop-i.invariant
    (c.in_err-add_row.ensures.full (err_handed c.from_residual.result c.in_err-add_row.field-0.0 _ c.from_residual.ensures.1 is))

pub returns-in_err-add_row-clause-side : goal.returns-in_err-add_row-clause-side
returns-in_err-add_row-clause-side g c = side_then g.R.S.Space g.L.Multi g.D.Multi c.args.side.now c.loop-i.side c.add_row.new.side c.loop-i.invariant.side c.add_row.ensures.side

pub returns-in_err-add_row-clause-stays : goal.returns-in_err-add_row-clause-stays
returns-in_err-add_row-clause-stays g c = stays_then g.R.S.Space g.R.Records g.L.Multi g.D.Multi c.args.self.now c.loop-i.self c.add_row.new.self c.loop-i.invariant.stays c.add_row.ensures.stays
