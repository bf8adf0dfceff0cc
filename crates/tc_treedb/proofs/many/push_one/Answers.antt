use Rattle.std.proofs.Common.{ap, true}
use Rattle.std.specs.Prelude.{length}
use Rattle.bt_page.proofs.Runs.{err_handed}
use Rattle.bt_ways.specs.Changes.{inserted}
use Rattle.tc_treedb.specs.Changing.{push_in}
use Rattle.tc_treedb.proofs.Severals.{counts_pushed, inserted_as, pushed_as}
use Rattle.tc_treedb.proofs.Stored.{fills_as, fills_here, fills_insert}
use Rattle.tc_treedb.proofs.many.push_one.Goals as goal

pub returns-in_err-insert-clause-full : goal.returns-in_err-insert-clause-full
returns-in_err-insert-clause-full g c = λ full.
    fills_as g.R.S.Space g.R.Records g.O.Order (inserted g.O.Order.cmp true c.as_slice-key.result.now c.as_slice.result.now) (push_in g.O.Order.cmp c.args.pair.now) _ _ _ (λ ps h. pushed_as g.O.Order.cmp c.args.pair.now _ _ ps c.as_slice-key.ensures c.as_slice.ensures)
    (fills_here g.R.S.Space g.R.Records g.O.Order (inserted g.O.Order.cmp true c.as_slice-key.result.now c.as_slice.result.now) _ _ _ c.insert.ensures.keeps
    (fills_insert g.R.S.Space g.R.Records g.O.Order true c.as_slice-key.result.now c.as_slice.result.now _ _ _ c.requires.sound (c.in_err-insert.ensures.full (err_handed c.from_residual.result c.in_err-insert.field-0.0 _ c.from_residual.ensures.1 full))))

pub returns-clause-pushed : goal.returns-clause-pushed
returns-clause-pushed g c = inserted_as g.R.S.Space g.R.Records g.O.Order true c.args.pair.now.key _ c.args.pair.now.value _ _ _ _ _ c.as_slice-key.ensures c.as_slice.ensures c.in_ok-insert.ensures.inserted

pub returns-clause-counted : goal.returns-clause-counted
returns-clause-counted g c = counts_pushed g.R.S.Space g.R.Records g.O.Order g.met.O.Order.total g.met.O.Order.exact c.args.pair.now c.args.total _ _ _ _ _ (ap length c.as_slice-key.ensures) c.len.ensures c.counted_with.ensures
