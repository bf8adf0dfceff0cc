use Rattle.std.proofs.Common.{inl, inr}
use Rattle.td_index.proofs.Handed.{err_handed, on_err_any}
use Rattle.td_index.proofs.Listed.{out_stopped, turn_full, turn_stopped, turned}
use Rattle.td_index.proofs.index.Index.change.Goals as goal

pub returns-clause-turns : goal.returns-clause-turns
returns-clause-turns g c =
    turned g.M.S.Space g.M.Multi c.args.self.now.tree c.out_entries.new.tree c.put_entries.new.tree c.args.space.now c.out_entries.new.space c.put_entries.new.space c.args.key.now c.args.old.now c.args.new.now c.out_entries.ensures.stays.file
    c.in_ok-out_entries.ensures.out c.in_ok-put_entries.ensures.put

pub returns-in_err-out_entries-clause-refused : goal.returns-in_err-out_entries-clause-refused
returns-in_err-out_entries-clause-refused g c = on_err_any _ (out_stopped g.M.S.Space g.M.Multi c.args.self.now.tree c.out_entries.new.tree c.args.space.now c.out_entries.new.space c.args.key.now c.args.old.now c.args.new.now c.in_err-out_entries.ensures.refused)

pub returns-in_err-out_entries-clause-full : goal.returns-in_err-out_entries-clause-full
returns-in_err-out_entries-clause-full g c = λ is. inl (c.in_err-out_entries.ensures.full (err_handed c.from_residual.result c.in_err-out_entries.field-0.0 _ c.from_residual.ensures.1 is))

pub returns-in_err-put_entries-clause-refused : goal.returns-in_err-put_entries-clause-refused
returns-in_err-put_entries-clause-refused g c =
    on_err_any _ (turn_stopped g.M.S.Space g.M.Multi c.args.self.now.tree c.out_entries.new.tree c.put_entries.new.tree c.args.space.now c.out_entries.new.space c.put_entries.new.space c.args.key.now c.args.old.now c.args.new.now c.in_ok-out_entries.ensures.out c.in_err-put_entries.ensures.refused)

pub returns-in_err-put_entries-clause-full : goal.returns-in_err-put_entries-clause-full
returns-in_err-put_entries-clause-full g c = λ is.
    inr (turn_full g.M.S.Space g.M.Multi g.M.O.Order.cmp c.args.self.now.tree c.out_entries.new.tree c.args.space.now c.out_entries.new.space c.put_entries.new.space c.args.key.now c.args.old.now c.args.new.now c.in_ok-out_entries.ensures.out c.out_entries.ensures.keeps c.out_entries.ensures.stays (c.in_err-put_entries.ensures.full (err_handed c.from_residual-in_err-put_entries.result c.in_err-put_entries.field-0.0 _ c.from_residual-in_err-put_entries.ensures.1 is)))
