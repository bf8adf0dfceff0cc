use Rattle.std.proofs.Common.{inr, refl}
use Rattle.tc_reach.proofs.Handed.{err_handed, on_err_any}
use Rattle.tc_space.specs.Frames.{reads_refl}
use Rattle.tc_engine.specs.Changes.{row_stored}
use Rattle.tc_model.specs.Stores.{put_row}
use Rattle.tc_tabledb.proofs.Asked.{columns_none, not_counted, still_counted, columns_row}
use Rattle.tc_tabledb.proofs.Fully.{put_fills}
use Rattle.tc_tabledb.proofs.Lifting.{full_up, made_up, makes_none, ready_down, refuses_up}
use Rattle.tc_tabledb.proofs.Rowed.{call_row}
use Rattle.tc_tabledb.proofs.engine.TableEngineEngine.store_row.Goals as goal

pub put-requires : goal.put-requires
put-requires g c = ready_down g.S.Space _ _ _ c.args.self.now c.args.space.now c.requires

pub returns-in_default-clause-makes : goal.returns-in_default-clause-makes
returns-in_default-clause-makes g c = makes_none g.S.Space _ _ _ c.table_stores.ensures.store (row_stored c.args.mode c.args.key c.args.columns) c.args.self.now c.args.space.now c.requires.sound (columns_none c.args.mode c.args.key c.args.columns c.as_slice.result.now c.in_ok-row.field-0 c.as_slice.ensures c.in_ok-row.ensures c.in_default.is)

pub returns-in_err-row-clause-refused : goal.returns-in_err-row-clause-refused
returns-in_err-row-clause-refused g c = on_err_any _ (inr (reads_refl g.S.Space _ c.args.self.now c.args.space.now c.requires.sound))

pub returns-in_err-done-clause-refused : goal.returns-in_err-done-clause-refused
returns-in_err-done-clause-refused g c = on_err_any _ (refuses_up g.S.Space _ _ _ _ _ _ _ refl c.put.ensures.stays c.in_err-done.ensures.refused)

pub returns-in_err-done-clause-full : goal.returns-in_err-done-clause-full
returns-in_err-done-clause-full g c = λ full. full_up g.S.Space _ _ _ (row_stored c.args.mode c.args.key c.args.columns) (λ rows. put_row c.args.mode rows c.as_slice-2.result.now c.in-Some.row) c.args.self.now c.args.space.now c.put.new.space (columns_row c.args.mode c.args.key c.as_slice-2.result.now c.args.columns c.as_slice.result.now c.in_ok-row.field-0 c.in-Some.row c.as_slice-2.ensures c.as_slice.ensures c.in_ok-row.ensures c.in-Some.is)
    (λ x h. put_fills g.S.Space _ _ _ _ _ c.table_stores.ensures c.args.mode c.as_slice-2.result.now c.in-Some.row c.args.self.now c.args.space.now c.put.new.space (call_row c.as_slice.result.now c.in_ok-row.field-0 c.in-Some.row c.in_ok-row.ensures c.in-Some.is) x h (c.in_err-done.ensures.full (err_handed c.from_residual-in_err-done.result c.in_err-done.field-0.0 _ c.from_residual-in_err-done.ensures.1 full)))

pub returns-clause-makes : goal.returns-clause-makes
returns-clause-makes g c = made_up g.S.Space _ _ _ c.table_stores.ensures.store (row_stored c.args.mode c.args.key c.args.columns) (λ rows. put_row c.args.mode rows c.as_slice-2.result.now c.in-Some.row) c.in_ok-done.done c.args.self.now _ c.args.space.now c.put.new.space c.requires c.put.ensures.stays c.in_ok-done.ensures.put (columns_row c.args.mode c.args.key c.as_slice-2.result.now c.args.columns c.as_slice.result.now c.in_ok-row.field-0 c.in-Some.row c.as_slice-2.ensures c.as_slice.ensures c.in_ok-row.ensures c.in-Some.is)
    (λ x is. not_counted c.in_ok-done.done c.args.self.now.total _ _ c.uncounted-self.ensures is) (λ no_change. still_counted c.in_ok-done.done c.args.self.now.total _ c.uncounted-self.ensures no_change)
