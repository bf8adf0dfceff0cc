use Rattle.std.proofs.Common.{inl}
use Rattle.bt_page.proofs.Runs.{err_handed, on_err_any}
use Rattle.tc_base.specs.Orders.{order}
use Rattle.tc_engine.specs.Changes.{all_cleared}
use Rattle.tc_treedb.specs.Changing.{each_cleared}
use Rattle.tc_treedb.specs.Lifting.{ready_down}
use Rattle.tc_treedb.proofs.Asked.{full_all, is_cleared, makes_all}
use Rattle.tc_treedb.proofs.engine.TreeEngineEngine.clear_all.Goals as goal

pub clear_each-requires : goal.clear_each-requires
clear_each-requires g c = ready_down g.S.Space c.args.self.now c.args.space.now c.requires

pub returns-in_err-total-clause-refused : goal.returns-in_err-total-clause-refused
returns-in_err-total-clause-refused g c = on_err_any _ (inl c.in_err-total.ensures.refused)

pub returns-in_err-total-clause-full : goal.returns-in_err-total-clause-full
returns-in_err-total-clause-full g c = λ full. full_all g.S.Space (all_cleared c.args.keys) (λ m. each_cleared (order m.0) c.as_slice.result.now m.1) _ _ _ (is_cleared c.args.keys c.as_slice.result.now c.as_slice.ensures) (c.in_err-total.ensures.full (err_handed c.from_residual.result c.in_err-total.field-0.0 _ c.from_residual.ensures.1 full))

pub returns-clause-makes : goal.returns-clause-makes
returns-clause-makes g c = makes_all g.S.Space (all_cleared c.args.keys) (λ m. each_cleared (order m.0) c.as_slice.result.now m.1) c.args.self.now _ _ _ (is_cleared c.args.keys c.as_slice.result.now c.as_slice.ensures) c.clear_each.ensures.stays.head c.in_ok-total.ensures.made c.in_ok-total.ensures.counted
