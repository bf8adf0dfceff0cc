use Rattle.bt_cursor.specs.declared.takers.Last.{Last}
use Rattle.bt_cursor.proofs.Lookings.{has_last, looks_of, no_last}
use Rattle.bt_cursor.proofs.looking.last_of.Goals as goal

pub returns-in_err-show-clause-looks : goal.returns-in_err-show-clause-looks
returns-in_err-show-clause-looks g c =
    looks_of g.R.S.Space g.R.Records g.O.Order c.args.tree.now c.show.new.self c.args.space.now c.show.new.space c.args.tree.now.height c.new-steps.result c.show.new.steps c.new-steps.ensures c.show.ensures.asks

pub returns-then-not-branch-clause-looks : goal.returns-then-not-branch-clause-looks
returns-then-not-branch-clause-looks g c =
    looks_of g.R.S.Space g.R.Records g.O.Order c.args.tree.now c.show.new.self c.args.space.now c.show.new.space c.args.tree.now.height c.new-steps.result c.show.new.steps c.new-steps.ensures c.show.ensures.asks

pub returns-clause-looks : goal.returns-clause-looks
returns-clause-looks g c =
    looks_of g.R.S.Space g.R.Records g.O.Order c.args.tree.now c.show.new.self c.args.space.now c.show.new.space c.args.tree.now.height c.new-steps.result c.show.new.steps c.new-steps.ensures c.show.ensures.asks

pub returns-then-not-branch-clause-value : goal.returns-then-not-branch-clause-value
returns-then-not-branch-clause-value g c =
    no_last _ (λ (t : Last). t.number) (λ t u x more k. k.0) g.R.S.Space g.R.Records g.O.Order c.args.key.now c.args.tree.now c.args.space.now _ _ (rw c.if-not-branch.true at c.in_ok-show.ensures.shown)

pub returns-clause-value : goal.returns-clause-value
returns-clause-value g c =
    has_last _ (λ (t : Last). t.number) (λ t u x more k. k.0) g.R.S.Space g.R.Records g.O.Order c.args.key.now c.args.tree.now c.args.space.now _ _ (rw c.if-not-branch.false at c.in_ok-show.ensures.shown)
