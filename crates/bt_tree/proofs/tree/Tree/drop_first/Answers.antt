use Rattle.std.proofs.Common.{inr}
use Rattle.std.proofs.lemmas.Result.{IfOk-weaker}
use Rattle.bt_page.proofs.Runs.{on_err_any}
use Rattle.bt_tree.proofs.Revalues.{few_none, removes_changes, removes_first, removes_full}
use Rattle.bt_tree.proofs.tree.Tree.drop_first.Goals as goal

pub returns-clause-set : goal.returns-clause-set
returns-clause-set g c =
    IfOk-weaker _ _ _ (λ taken out. removes_first g.R.S.Space g.R.Records g.O.Order c.args.key.now c.args.self.now c.remove.new.self c.args.space.now c.remove.new.space taken out) c.remove.ensures.out

pub returns-clause-gains : goal.returns-clause-gains
returns-clause-gains g c = record { most = few_none c.args.self.now c.remove.new.self c.remove.ensures.ids; kept = on_err_any c.remove.result (inr c.remove.ensures.ids) }

pub returns-clause-pages : goal.returns-clause-pages
returns-clause-pages g c =
    removes_changes g.R.S.Space g.R.Records g.O.Order c.args.key.now c.args.self.now c.remove.new.self c.args.space.now c.remove.new.space c.remove.result c.remove.ensures.pages c.remove.ensures.root c.remove.ensures.ids

pub returns-clause-full : goal.returns-clause-full
returns-clause-full g c =
    λ is. removes_full g.R.S.Space g.R.Records g.O.Order c.args.key.now c.args.self.now c.remove.new.self c.args.space.now c.remove.new.space (c.remove.ensures.full is)
