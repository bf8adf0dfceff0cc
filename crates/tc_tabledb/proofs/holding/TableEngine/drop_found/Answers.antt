use Rattle.std.proofs.Common.{◌∙◌, Some, inl, inr}
use Rattle.tc_reach.proofs.Handed.{err_handed, on_err_any}
use Rattle.tc_space.specs.Frames.{reads_refl}
use Rattle.tc_tabledb.specs.Changing.{all_out}
use Rattle.tc_tabledb.specs.Searching.{dropped}
use Rattle.tc_tabledb.proofs.Fully.{each_fills}
use Rattle.tc_tabledb.proofs.Lifting.{drops_made, full_up, ready_down}
use Rattle.tc_tabledb.proofs.Searched.{drops_found, turns_of}
use Rattle.tc_tabledb.proofs.holding.TableEngine.drop_found.Goals as goal

pub drop_each-requires : goal.drop_each-requires
drop_each-requires g c = ready_down g.S.Space _ _ _ c.args.self.now c.args.space.now c.requires

pub returns-in_err-keys-clause-refused : goal.returns-in_err-keys-clause-refused
returns-in_err-keys-clause-refused g c = on_err_any _ (inr (reads_refl g.S.Space _ c.args.self.now c.args.space.now c.requires.sound))

pub returns-in_err-drop_each-clause-refused : goal.returns-in_err-drop_each-clause-refused
returns-in_err-drop_each-clause-refused g c = on_err_any _ (inl c.in_err-drop_each.ensures.spoiled)

pub returns-in_err-drop_each-clause-full : goal.returns-in_err-drop_each-clause-full
returns-in_err-drop_each-clause-full g c = λ full. full_up g.S.Space _ _ _ (dropped c.args.found.now) (λ rows. Some (all_out c.as_slice.result.now rows)) c.args.self.now c.args.space.now c.drop_each.new.space (drops_found c.args.found.now c.as_slice.result.now (c.as_slice.ensures ∙ c.in_ok-keys.ensures))
    (λ x h. each_fills g.S.Space _ _ _ _ _ c.table_stores.ensures c.as_slice.result.now c.args.self.now c.args.space.now c.drop_each.new.space x h (c.in_err-drop_each.ensures.full (err_handed c.from_residual-in_err-drop_each.result c.in_err-drop_each.field-0.0 _ c.from_residual-in_err-drop_each.ensures.1 full)))

pub returns-clause-drops : goal.returns-clause-drops
returns-clause-drops g c = turns_of g.S.Space _ _ _ (dropped c.args.found.now) c.args.self.now _ c.args.space.now c.drop_each.new.space
    (drops_made g.S.Space _ _ _ c.table_stores.ensures.store (dropped c.args.found.now) c.as_slice.result.now c.args.self.now _ c.args.space.now c.drop_each.new.space c.requires c.drop_each.ensures.stays c.in_ok-drop_each.ensures.drops (drops_found c.args.found.now c.as_slice.result.now (c.as_slice.ensures ∙ c.in_ok-keys.ensures)) (λ x. tt))
