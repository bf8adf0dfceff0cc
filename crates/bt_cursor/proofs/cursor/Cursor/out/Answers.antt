use Rattle.std.proofs.Common.{None, true, false}
use Rattle.bt_cursor.proofs.Settings.{outs_none, outs_some, pages_done, pages_refused}
use Rattle.bt_page.proofs.Runs.{err_handed}
use Rattle.bt_cursor.proofs.cursor.Cursor.out.Goals as goal

pub returns-in_default-clause-out : goal.returns-in_default-clause-out
returns-in_default-clause-out g c =
    outs_none g.R.S.Space g.R.Records g.O.Order c.args.self.now.at c.args.tree.now c.out_from.new.tree c.args.space.now c.out_from.new.space (rw c.in_default.is at c.in_ok-next.ensures.out)

pub returns-clause-out : goal.returns-clause-out
returns-clause-out g c =
    outs_some g.R.S.Space g.R.Records g.O.Order c.args.self.now.at c.in-Some.next c.args.tree.now c.out_from.new.tree c.args.space.now c.out_from.new.space (rw c.in-Some.is at c.in_ok-next.ensures.out)

pub returns-in_err-next-clause-full : goal.returns-in_err-next-clause-full
returns-in_err-next-clause-full g c =
    λ is. c.in_err-next.ensures.full (err_handed c.from_residual.result c.in_err-next.field-0.0 _ c.from_residual.ensures.1 is)

pub returns-in_default-clause-pages : goal.returns-in_default-clause-pages
returns-in_default-clause-pages g c =
    pages_done g.R.S.Space g.R.Records g.O.Order c.args.self.now.at None c.args.tree.now c.out_from.new.tree c.args.space.now c.out_from.new.space _ false c.in_ok-next.ensures.pages

pub returns-clause-pages : goal.returns-clause-pages
returns-clause-pages g c =
    pages_done g.R.S.Space g.R.Records g.O.Order c.args.self.now.at None c.args.tree.now c.out_from.new.tree c.args.space.now c.out_from.new.space _ true c.in_ok-next.ensures.pages

pub returns-in_err-next-clause-pages : goal.returns-in_err-next-clause-pages
returns-in_err-next-clause-pages g c =
    pages_refused g.R.S.Space g.R.Records g.O.Order c.args.self.now.at None c.args.tree.now c.out_from.new.tree c.args.space.now c.out_from.new.space _ c.in_err-next.field-0.0 c.from_residual.result c.from_residual.ensures.1 c.in_err-next.ensures.pages
