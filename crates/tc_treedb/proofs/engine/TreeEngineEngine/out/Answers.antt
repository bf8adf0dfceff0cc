use Rattle.std.proofs.Common.{◌∙◌, false, refl, sym, true}
use Rattle.bt_page.proofs.Runs.{err_handed, on_err_any}
use Rattle.tc_base.specs.Orders.{order}
use Rattle.tc_engine.specs.Changes.{taken}
use Rattle.tc_treedb.specs.Changing.{taken_in}
use Rattle.tc_treedb.specs.Lifting.{full_up, made_up, ready_down, refuses_up}
use Rattle.tc_treedb.proofs.Asked.{counted_take, is_taken, made_none, makes_at, makes_none_at}
use Rattle.tc_treedb.proofs.engine.TreeEngineEngine.out.Goals as goal

pub take-requires : goal.take-requires
take-requires g c = ready_down g.S.Space c.args.self.now c.args.space.now c.requires

pub returns-in_err-taken-clause-refused : goal.returns-in_err-taken-clause-refused
returns-in_err-taken-clause-refused g c = on_err_any _ (refuses_up g.S.Space _ _ _ _ c.in_err-taken.ensures.refused refl)

pub returns-in_err-taken-clause-full : goal.returns-in_err-taken-clause-full
returns-in_err-taken-clause-full g c = λ full. full_up g.S.Space (taken c.args.key.now) (λ m. taken_in (order m.0) c.as_slice-key.result.now m.1) _ _ _ (c.in_err-taken.ensures.full (err_handed c.from_residual.result c.in_err-taken.field-0.0 _ c.from_residual.ensures.1 full)) (is_taken c.args.key.now c.as_slice-key.result.now c.as_slice-key.ensures)

pub returns-in-Some-clause-makes : goal.returns-in-Some-clause-makes
returns-in-Some-clause-makes g c = made_up g.S.Space (taken c.args.key.now) (λ m. taken_in (order m.0) c.as_slice-key.result.now m.1) true c.args.self.now _ _ _ (makes_at g.S.Space c.in_ok-taken.taken c.in-Some.is c.in_ok-taken.ensures.makes) (is_taken c.args.key.now c.as_slice-key.result.now c.as_slice-key.ensures)
    (λ m qs h counted done. counted_take c.args.self.now.total _ c.as_slice-key.result.now _ _ m qs refl (sym c.in-Some.is ∙ c.in_ok-taken.ensures.len m h) done counted c.counted_without-self.ensures) (λ none. absurd cc)

pub returns-in-None-clause-makes : goal.returns-in-None-clause-makes
returns-in-None-clause-makes g c = made_none g.S.Space (taken c.args.key.now) (λ m. taken_in (order m.0) c.as_slice-key.result.now m.1) c.args.self.now _ _ _ (makes_none_at g.S.Space c.in_ok-taken.taken c.in-None.is c.in_ok-taken.ensures.makes) (is_taken c.args.key.now c.as_slice-key.result.now c.as_slice-key.ensures) refl
