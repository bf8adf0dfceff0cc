use Rattle.td_index.proofs.Handed.{err_handed}
use Rattle.tc_table.proofs.Holding.{stays_then}
use Rattle.tc_tabledb.proofs.Putting.{put_end, put_full, put_more, put_ready, put_start, told_from}
use Rattle.tc_tabledb.proofs.storing.put_some.Goals as goal

pub loop-key-init : goal.loop-key-init
loop-key-init g c = put_start g.R.S.Space g.R.Records g.L.Multi g.D.Multi c.args.table.now c.args.space.now _ c.requires.sound

pub put-requires : goal.put-requires
put-requires g c = put_ready g.R.S.Space g.R.Records g.L.Multi g.D.Multi c.args.table.now c.loop-key.table c.args.space.now c.loop-key.space _ _ c.loop-key.invariant c.requires

pub loop-key-preserved : goal.loop-key-preserved
loop-key-preserved g c = put_more g.R.S.Space g.R.Records g.L.Multi g.D.Multi c.args.table.now c.loop-key.table c.put.new.self c.args.space.now c.loop-key.space c.put.new.space _ _ _ (c.in-Some.key.now, c.in-Some.text.now) c.as_slice-in-loop-key.result.now c.as_slice.result.now _ c.in-Some-2.row c.in_ok-_done._done
    c.loop-key.invariant c.in-Some.ensures.steps c.as_slice-in-loop-key.ensures c.as_slice.ensures c.in_ok-row.ensures c.in-Some-2.is c.in_ok-_done.ensures.put c.put.ensures.keeps c.put.ensures.stays

pub returns-clause-puts : goal.returns-clause-puts
returns-clause-puts g c =
    put_end g.R.S.Space g.R.Records g.L.Multi g.D.Multi c.args.table.now c.loop-key.table c.args.space.now c.loop-key.space _ _ c.args.texts.now c.loop-key.invariant c.in-None.ensures.steps.0 (told_from _ _ _ _ c.args.texts.now c.into_iter-key-iterator.ensures.into_iter_gives c.entries_from-key-items.ensures.entries c.new-least.ensures c.new.ensures)

pub returns-in_err-_done-clause-stays : goal.returns-in_err-_done-clause-stays
returns-in_err-_done-clause-stays g c = stays_then g.R.S.Space g.R.Records g.L.Multi g.D.Multi c.args.table.now c.loop-key.table c.put.new.self c.loop-key.invariant.stays c.put.ensures.stays

pub returns-in_err-_done-clause-full : goal.returns-in_err-_done-clause-full
returns-in_err-_done-clause-full g c = λ is.
    put_full g.R.S.Space g.R.Records g.L.Multi g.D.Multi g.L.O.Order.cmp g.D.O.Order.cmp c.args.table.now c.loop-key.table c.args.space.now c.loop-key.space c.put.new.space _ _ _ (c.in-Some.key.now, c.in-Some.text.now) c.as_slice-in-loop-key.result.now c.as_slice.result.now _ c.in-Some-2.row c.args.texts.now
    c.loop-key.invariant c.in-Some.ensures.steps c.as_slice-in-loop-key.ensures c.as_slice.ensures c.in_ok-row.ensures c.in-Some-2.is (told_from _ _ _ _ c.args.texts.now c.into_iter-key-iterator.ensures.into_iter_gives c.entries_from-key-items.ensures.entries c.new-least.ensures c.new.ensures)
    (c.in_err-_done.ensures.full (err_handed c.from_residual-in_err-_done.result c.in_err-_done.field-0.0 _ c.from_residual-in_err-_done.ensures.1 is))
