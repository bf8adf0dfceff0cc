use Rattle.std.proofs.Common.{false, refl, true}
use Rattle.bt_page.proofs.Runs.{err_handed, on_err_any}
use Rattle.tc_base.specs.Orders.{order}
use Rattle.tc_engine.specs.Changes.{stored}
use Rattle.tc_treedb.specs.Changing.{stored_in}
use Rattle.tc_treedb.specs.Lifting.{full_up, made_up, ready_down, refuses_up}
use Rattle.tc_treedb.proofs.Asked.{counted_put, is_stored, lengths_at, made_none, makes_at, makes_none_at}
use Rattle.tc_treedb.proofs.engine.TreeEngineEngine.store.Goals as goal

pub store-requires : goal.store-requires
store-requires g c = ready_down g.S.Space c.args.self.now c.args.space.now c.requires

pub returns-in_err-stored-clause-refused : goal.returns-in_err-stored-clause-refused
returns-in_err-stored-clause-refused g c = on_err_any _ (refuses_up g.S.Space _ _ _ _ c.in_err-stored.ensures.refused refl)

pub returns-in_err-stored-clause-full : goal.returns-in_err-stored-clause-full
returns-in_err-stored-clause-full g c = λ full. full_up g.S.Space (stored c.args.mode c.args.key c.args.value) (λ m. stored_in (order m.0) c.args.mode c.as_slice-key.result.now c.as_slice.result.now m.1) _ _ _ (c.in_err-stored.ensures.full (err_handed c.from_residual.result c.in_err-stored.field-0.0 _ c.from_residual.ensures.1 full)) (is_stored c.args.mode c.args.key c.as_slice-key.result.now c.args.value c.as_slice.result.now c.as_slice-key.ensures c.as_slice.ensures)

pub returns-in-Some-clause-makes : goal.returns-in-Some-clause-makes
returns-in-Some-clause-makes g c = made_up g.S.Space (stored c.args.mode c.args.key c.args.value) (λ m. stored_in (order m.0) c.args.mode c.as_slice-key.result.now c.as_slice.result.now m.1) true c.args.self.now _ _ _ (makes_at g.S.Space c.in_ok-stored.stored c.in-Some.is c.in_ok-stored.ensures.makes) (is_stored c.args.mode c.args.key c.as_slice-key.result.now c.args.value c.as_slice.result.now c.as_slice-key.ensures c.as_slice.ensures)
    (λ m qs h counted done. counted_put c.args.self.now.total _ c.args.mode c.as_slice-key.result.now c.as_slice.result.now _ c.in-Some.change m qs refl (lengths_at _ c.in_ok-stored.stored c.in-Some.change c.in-Some.is c.in_ok-stored.ensures.lengths m h) done counted c.counted_with-self.ensures) (λ none. absurd cc)

pub returns-clause-makes : goal.returns-clause-makes
returns-clause-makes g c = made_none g.S.Space (stored c.args.mode c.args.key c.args.value) (λ m. stored_in (order m.0) c.args.mode c.as_slice-key.result.now c.as_slice.result.now m.1) c.args.self.now _ _ _ (makes_none_at g.S.Space c.in_ok-stored.stored c.in-None.is c.in_ok-stored.ensures.makes) (is_stored c.args.mode c.args.key c.as_slice-key.result.now c.args.value c.as_slice.result.now c.as_slice-key.ensures c.as_slice.ensures) refl
