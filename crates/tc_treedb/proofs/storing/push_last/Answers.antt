use Rattle.std.proofs.Common.{arith, true, ap, refl, sym}
use Rattle.std.specs.Prelude.{unwrap_or, length, ◌≤◌}
use Rattle.bt_page.proofs.Runs.{err_handed, on_err_any}
use Rattle.bt_ways.specs.Changes.{inserted}
use Rattle.tc_treedb.specs.Changing.{after, pushed_in}
use Rattle.tc_treedb.proofs.Stored.{fills_as, fills_here, fills_insert, grown_done, grown_refl, grown_refused, pushed_long, pushed_short, takes_none, takes_some}
use Rattle.tc_treedb.proofs.storing.push_last.Goals as goal

pub returns-then-value-gt-VALUE_MOST-clause-takes : goal.returns-then-value-gt-VALUE_MOST-clause-takes
returns-then-value-gt-VALUE_MOST-clause-takes g c = takes_none g.R.S.Space g.R.Records g.O.Order (pushed_in g.O.Order.cmp c.args.key.now c.args.value.now) _ _ c.requires.sound (λ ps h. pushed_long g.O.Order.cmp c.args.key.now c.args.value.now ps (omega (arith, c.if-value-gt-VALUE_MOST.true)))

pub returns-then-value-gt-VALUE_MOST-clause-stays : goal.returns-then-value-gt-VALUE_MOST-clause-stays
returns-then-value-gt-VALUE_MOST-clause-stays g c = grown_refl g.R.S.Space g.R.Records g.O.Order _ _ _

pub returns-in_err-insert-clause-refused : goal.returns-in_err-insert-clause-refused
returns-in_err-insert-clause-refused g c = on_err_any _ c.in_err-insert.ensures.refused

pub returns-in_err-insert-clause-full : goal.returns-in_err-insert-clause-full
returns-in_err-insert-clause-full g c = λ full.
    let short : length c.args.value.now ≤ 16777216 = omega (arith, c.if-value-gt-VALUE_MOST.false) in
    fills_as g.R.S.Space g.R.Records g.O.Order (inserted g.O.Order.cmp true c.args.key.now c.args.value.now) (after (pushed_in g.O.Order.cmp c.args.key.now c.args.value.now)) _ _ _
    (λ ps h. sym (ap (λ o. unwrap_or o ps) (pushed_short g.O.Order.cmp c.args.key.now c.args.value.now ps short)))
    (fills_here g.R.S.Space g.R.Records g.O.Order (inserted g.O.Order.cmp true c.args.key.now c.args.value.now) _ _ _ c.insert.ensures.keeps
    (fills_insert g.R.S.Space g.R.Records g.O.Order true c.args.key.now c.args.value.now _ _ _ c.requires.sound (c.in_err-insert.ensures.full (err_handed c.from_residual.result c.in_err-insert.field-0.0 _ c.from_residual.ensures.1 full))))

pub returns-clause-takes : goal.returns-clause-takes
returns-clause-takes g c = takes_some g.R.S.Space g.R.Records g.O.Order (pushed_in g.O.Order.cmp c.args.key.now c.args.value.now) (inserted g.O.Order.cmp true c.args.key.now c.args.value.now) _ _ _ _
    (λ ps h. pushed_short g.O.Order.cmp c.args.key.now c.args.value.now ps (omega (arith, c.if-value-gt-VALUE_MOST.false))) c.in_ok-insert.ensures.inserted

pub returns-in_err-insert-clause-stays : goal.returns-in_err-insert-clause-stays
returns-in_err-insert-clause-stays g c = grown_refused g.R.S.Space g.R.Records g.O.Order _ c.in_err-insert.field-0.0 _ _ _ _ c.from_residual.ensures.1 c.insert.ensures.stays c.insert.ensures.gains.most c.in_err-insert.ensures.gains.kept

pub returns-clause-stays : goal.returns-clause-stays
returns-clause-stays g c = grown_done g.R.S.Space g.R.Records g.O.Order _ _ (inserted g.O.Order.cmp true c.args.key.now c.args.value.now) _ _ _ _ refl c.insert.ensures.stays c.insert.ensures.gains.most c.in_ok-insert.ensures.pages
