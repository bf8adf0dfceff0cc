use Rattle.std.proofs.Common.{inr, refl}
use Rattle.tc_reach.proofs.Handed.{err_handed, on_err_any}
use Rattle.tc_space.specs.Frames.{reads_refl}
use Rattle.std.specs.FinMap.{empty}
use Rattle.std.proofs.Common.{Some}
use Rattle.tc_engine.specs.Changes.{all_gone}
use Rattle.tc_tabledb.proofs.Asked.{empties}
use Rattle.tc_tabledb.proofs.Fully.{clear_fills}
use Rattle.tc_tabledb.proofs.Lifting.{cleared_made, full_up, ready_down, refuses_up}
use Rattle.tc_tabledb.proofs.engine.TableEngineEngine.clear.Goals as goal

pub clear-requires : goal.clear-requires
clear-requires g c = ready_down g.S.Space _ _ _ c.args.self.now c.args.space.now c.requires

pub returns-in_err-clear-clause-refused : goal.returns-in_err-clear-clause-refused
returns-in_err-clear-clause-refused g c = on_err_any _ (refuses_up g.S.Space _ _ _ _ _ _ _ refl c.clear.ensures.stays c.in_err-clear.ensures.refused)

pub returns-in_err-clear-clause-full : goal.returns-in_err-clear-clause-full
returns-in_err-clear-clause-full g c = λ full. full_up g.S.Space _ _ _ all_gone (λ rows. Some empty) c.args.self.now c.args.space.now c.clear.new.space empties
    (λ x h. clear_fills g.S.Space _ _ _ _ _ c.table_stores.ensures c.args.self.now c.args.space.now c.clear.new.space x h (c.in_err-clear.ensures.full (err_handed c.from_residual.result c.in_err-clear.field-0.0 _ c.from_residual.ensures.1 full)))

pub returns-clause-makes : goal.returns-clause-makes
returns-clause-makes g c = cleared_made g.S.Space _ _ _ c.table_stores.ensures.store c.args.self.now _ c.args.space.now c.clear.new.space c.requires c.clear.ensures.stays c.in_ok-clear.ensures.cleared refl
