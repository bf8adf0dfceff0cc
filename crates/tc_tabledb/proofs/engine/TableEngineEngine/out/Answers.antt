use Rattle.std.proofs.Common.{inr, refl}
use Rattle.tc_reach.proofs.Handed.{err_handed, on_err_any}
use Rattle.tc_space.specs.Frames.{reads_refl}
use Rattle.tc_engine.specs.Changes.{taken}
use Rattle.tc_model.specs.Maps.{without}
use Rattle.tc_tabledb.proofs.Asked.{not_counted, still_counted, takes_row}
use Rattle.tc_tabledb.proofs.Fully.{out_fills}
use Rattle.tc_tabledb.proofs.Lifting.{full_up, made_up, ready_down, refuses_up}
use Rattle.tc_tabledb.proofs.engine.TableEngineEngine.out.Goals as goal

pub out-requires : goal.out-requires
out-requires g c = ready_down g.S.Space _ _ _ c.args.self.now c.args.space.now c.requires

pub returns-in_err-done-clause-refused : goal.returns-in_err-done-clause-refused
returns-in_err-done-clause-refused g c = on_err_any _ (refuses_up g.S.Space _ _ _ _ _ _ _ refl c.out.ensures.stays c.in_err-done.ensures.refused)

pub returns-in_err-done-clause-full : goal.returns-in_err-done-clause-full
returns-in_err-done-clause-full g c = λ full. full_up g.S.Space _ _ _ (taken c.args.key.now) (λ rows. without rows c.as_slice.result.now) c.args.self.now c.args.space.now c.out.new.space (takes_row c.args.key.now c.as_slice.result.now c.as_slice.ensures)
    (λ x h. out_fills g.S.Space _ _ _ _ _ c.table_stores.ensures c.as_slice.result.now c.args.self.now c.args.space.now c.out.new.space x h (c.in_err-done.ensures.full (err_handed c.from_residual.result c.in_err-done.field-0.0 _ c.from_residual.ensures.1 full)))

pub returns-clause-makes : goal.returns-clause-makes
returns-clause-makes g c = made_up g.S.Space _ _ _ c.table_stores.ensures.store (taken c.args.key.now) (λ rows. without rows c.as_slice.result.now) c.in_ok-done.done c.args.self.now _ c.args.space.now c.out.new.space c.requires c.out.ensures.stays c.in_ok-done.ensures.out (takes_row c.args.key.now c.as_slice.result.now c.as_slice.ensures)
    (λ x is. not_counted c.in_ok-done.done c.args.self.now.total _ _ c.uncounted-self.ensures is) (λ no_change. still_counted c.in_ok-done.done c.args.self.now.total _ c.uncounted-self.ensures no_change)
