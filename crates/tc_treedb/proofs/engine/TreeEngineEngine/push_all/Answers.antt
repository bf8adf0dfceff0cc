use Rattle.std.proofs.Common.{◌∙◌, ap, inl, sym}
use Rattle.std.specs.List.{list_all}
use Rattle.bt_page.proofs.Runs.{err_handed, on_err_any}
use Rattle.tc_base.specs.Orders.{order}
use Rattle.tc_engine.specs.Changes.{all_pushed}
use Rattle.tc_treedb.specs.Changing.{each_pushed, is_short}
use Rattle.tc_treedb.specs.Lifting.{ready_down}
use Rattle.tc_treedb.proofs.Asked.{full_all, is_pushed_each, is_pushed_none, makes_all, makes_no}
use Rattle.tc_treedb.proofs.engine.TreeEngineEngine.push_all.Goals as goal

pub returns-then-not-are_short-clause-makes : goal.returns-then-not-are_short-clause-makes
returns-then-not-are_short-clause-makes g c = makes_no g.S.Space (all_pushed c.args.pairs) _ _ c.requires.sound (is_pushed_none c.args.pairs c.as_slice.result.now c.are_short.result c.as_slice.ensures c.are_short.ensures c.if-not-are_short.true)

pub push_all-requires : goal.push_all-requires
push_all-requires g c = ready_down g.S.Space c.args.self.now c.args.space.now c.requires

pub returns-in_err-total-clause-refused : goal.returns-in_err-total-clause-refused
returns-in_err-total-clause-refused g c = on_err_any _ (inl c.in_err-total.ensures.refused)

pub returns-in_err-total-clause-full : goal.returns-in_err-total-clause-full
returns-in_err-total-clause-full g c = λ full. full_all g.S.Space (all_pushed c.args.pairs) (λ m. each_pushed (order m.0) c.as_slice-2.result.now m.1) _ _ _ (is_pushed_each c.args.pairs c.as_slice-2.result.now c.are_short.result c.as_slice-2.ensures (c.are_short.ensures ∙ ap (list_all is_short) (c.as_slice.ensures ∙ sym c.as_slice-2.ensures)) c.if-not-are_short.false) (c.in_err-total.ensures.full (err_handed c.from_residual.result c.in_err-total.field-0.0 _ c.from_residual.ensures.1 full))

pub returns-clause-makes : goal.returns-clause-makes
returns-clause-makes g c = makes_all g.S.Space (all_pushed c.args.pairs) (λ m. each_pushed (order m.0) c.as_slice-2.result.now m.1) c.args.self.now _ _ _ (is_pushed_each c.args.pairs c.as_slice-2.result.now c.are_short.result c.as_slice-2.ensures (c.are_short.ensures ∙ ap (list_all is_short) (c.as_slice.ensures ∙ sym c.as_slice-2.ensures)) c.if-not-are_short.false) c.push_all.ensures.numbers c.in_ok-total.ensures.made c.in_ok-total.ensures.counted
