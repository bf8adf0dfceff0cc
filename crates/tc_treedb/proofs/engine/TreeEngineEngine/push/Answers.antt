use Rattle.std.proofs.Common.{◌∙◌, ap, false, length, refl, sym, true}
use Rattle.bt_page.proofs.Runs.{err_handed, on_err_any}
use Rattle.tc_base.specs.Orders.{order}
use Rattle.tc_engine.specs.Changes.{pushed}
use Rattle.tc_treedb.specs.Changing.{pushed_in}
use Rattle.tc_treedb.specs.Lifting.{full_up, made_up, ready_down, refuses_up}
use Rattle.tc_treedb.proofs.Asked.{counted_push, is_pushed, made_none}
use Rattle.tc_treedb.proofs.engine.TreeEngineEngine.push.Goals as goal

pub push-requires : goal.push-requires
push-requires g c = ready_down g.S.Space c.args.self.now c.args.space.now c.requires

pub returns-in_err-push-clause-refused : goal.returns-in_err-push-clause-refused
returns-in_err-push-clause-refused g c = on_err_any _ (refuses_up g.S.Space _ _ _ _ c.in_err-push.ensures.refused refl)

pub returns-in_err-push-clause-full : goal.returns-in_err-push-clause-full
returns-in_err-push-clause-full g c = λ full. full_up g.S.Space (pushed c.args.key c.args.value) (λ m. pushed_in (order m.0) c.as_slice-key.result.now c.as_slice.result.now m.1) _ _ _ (c.in_err-push.ensures.full (err_handed c.from_residual.result c.in_err-push.field-0.0 _ c.from_residual.ensures.1 full)) (is_pushed c.args.key c.as_slice-key.result.now c.args.value c.as_slice.result.now c.as_slice-key.ensures c.as_slice.ensures)

pub returns-then-not-branch-clause-makes : goal.returns-then-not-branch-clause-makes
returns-then-not-branch-clause-makes g c = made_none g.S.Space (pushed c.args.key c.args.value) (λ m. pushed_in (order m.0) c.as_slice-key.result.now c.as_slice.result.now m.1) c.args.self.now _ _ _ (rw c.if-not-branch.true at c.in_ok-push.ensures.makes) (is_pushed c.args.key c.as_slice-key.result.now c.args.value c.as_slice.result.now c.as_slice-key.ensures c.as_slice.ensures) refl

pub returns-clause-makes : goal.returns-clause-makes
returns-clause-makes g c = made_up g.S.Space (pushed c.args.key c.args.value) (λ m. pushed_in (order m.0) c.as_slice-key.result.now c.as_slice.result.now m.1) true c.args.self.now _ _ _ (rw c.if-not-branch.false at c.in_ok-push.ensures.makes) (is_pushed c.args.key c.as_slice-key.result.now c.args.value c.as_slice.result.now c.as_slice-key.ensures c.as_slice.ensures)
    (λ m qs h counted done. counted_push c.args.self.now.total _ c.as_slice-key.result.now c.as_slice.result.now _ _ m qs refl (c.len.ensures ∙ ap length (sym c.as_slice.ensures)) done counted c.counted_with-self.ensures) (λ none. absurd cc)
