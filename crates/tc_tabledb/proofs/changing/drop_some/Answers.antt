use Rattle.std.proofs.Common.{◌<◌, ◌≤◌, length, arith}
use Rattle.td_index.proofs.Handed.{err_handed}
use Rattle.tc_table.proofs.Holding.{stays_then}
use Rattle.tc_tabledb.proofs.Dropped.{all_dropped, dropping_ready, full_dropping, more_dropped, none_dropped}
use Rattle.tc_tabledb.proofs.changing.drop_some.Goals as goal

pub loop-i-init : goal.loop-i-init
loop-i-init g c = none_dropped g.R.S.Space g.R.Records g.L.Multi g.D.Multi c.args.row_keys.now c.args.table.now c.args.space.now c.requires.sound

pub out-requires : goal.out-requires
out-requires g c = dropping_ready g.R.S.Space g.R.Records g.L.Multi g.D.Multi c.args.row_keys.now c.loop-i.i c.args.table.now c.loop-i.table c.args.space.now c.loop-i.space c.loop-i.invariant c.requires

pub loop-i-preserved : goal.loop-i-preserved
loop-i-preserved g c =
    let less : c.loop-i.i < length c.args.row_keys.now = omega arith in
    more_dropped g.R.S.Space g.R.Records g.L.Multi g.D.Multi c.args.row_keys.now c.loop-i.i c.index-row_keys-i.result c.as_slice.result.now c.in_ok-_had._had c.args.table.now c.loop-i.table c.out.new.self c.args.space.now c.loop-i.space c.out.new.space less c.index-row_keys-i.is c.as_slice.ensures c.loop-i.invariant c.in_ok-_had.ensures.out c.out.ensures.keeps c.out.ensures.stays

pub returns-clause-drops : goal.returns-clause-drops
returns-clause-drops g c =
    let all : length c.args.row_keys.now ≤ c.loop-i.i = omega arith in
    all_dropped g.R.S.Space g.R.Records g.L.Multi g.D.Multi c.args.row_keys.now c.loop-i.i c.args.table.now c.loop-i.table c.args.space.now c.loop-i.space all c.loop-i.invariant

pub returns-in_err-_had-clause-full : goal.returns-in_err-_had-clause-full
returns-in_err-_had-clause-full g c = λ is.
    let less : c.loop-i.i < length c.args.row_keys.now = omega arith in
    full_dropping g.R.S.Space g.R.Records g.L.Multi g.D.Multi g.L.O.Order.cmp g.D.O.Order.cmp c.args.row_keys.now c.loop-i.i c.index-row_keys-i.result c.as_slice.result.now c.args.table.now c.loop-i.table c.args.space.now c.loop-i.space c.out.new.space less c.index-row_keys-i.is c.as_slice.ensures c.loop-i.invariant
    (c.in_err-_had.ensures.full (err_handed c.from_residual.result c.in_err-_had.field-0.0 _ c.from_residual.ensures.1 is))

pub returns-in_err-_had-clause-stays : goal.returns-in_err-_had-clause-stays
returns-in_err-_had-clause-stays g c = stays_then g.R.S.Space g.R.Records g.L.Multi g.D.Multi c.args.table.now c.loop-i.table c.out.new.self c.loop-i.invariant.stays c.out.ensures.stays
