use Rattle.std.proofs.Common.{Some, inl, refl}
use Rattle.tc_reach.proofs.Handed.{err_handed, on_err_any}
use Rattle.tc_engine.specs.Changes.{all_cleared}
use Rattle.tc_tabledb.specs.Changing.{all_out}
use Rattle.tc_tabledb.proofs.Asked.{cleared_all}
use Rattle.tc_tabledb.proofs.Fully.{each_fills}
use Rattle.tc_tabledb.proofs.Lifting.{drops_made, full_up, ready_down}
use Rattle.tc_tabledb.proofs.engine.TableEngineEngine.clear_all.Goals as goal

pub drop_each-requires : goal.drop_each-requires
drop_each-requires g c = ready_down g.S.Space _ _ _ c.args.self.now c.args.space.now c.requires

pub returns-in_err-drop_each-clause-refused : goal.returns-in_err-drop_each-clause-refused
returns-in_err-drop_each-clause-refused g c = on_err_any _ (inl c.in_err-drop_each.ensures.spoiled)

pub returns-in_err-drop_each-clause-full : goal.returns-in_err-drop_each-clause-full
returns-in_err-drop_each-clause-full g c = λ full. full_up g.S.Space _ _ _ (all_cleared c.args.keys) (λ rows. Some (all_out c.as_slice.result.now rows)) c.args.self.now c.args.space.now c.drop_each.new.space (cleared_all c.args.keys c.as_slice.result.now c.as_slice.ensures)
    (λ x h. each_fills g.S.Space _ _ _ _ _ c.table_stores.ensures c.as_slice.result.now c.args.self.now c.args.space.now c.drop_each.new.space x h (c.in_err-drop_each.ensures.full (err_handed c.from_residual.result c.in_err-drop_each.field-0.0 _ c.from_residual.ensures.1 full)))

pub returns-clause-makes : goal.returns-clause-makes
returns-clause-makes g c = drops_made g.S.Space _ _ _ c.table_stores.ensures.store (all_cleared c.args.keys) c.as_slice.result.now c.args.self.now _ c.args.space.now c.drop_each.new.space c.requires c.drop_each.ensures.stays c.in_ok-drop_each.ensures.drops (cleared_all c.args.keys c.as_slice.result.now c.as_slice.ensures) (λ x. tt)
