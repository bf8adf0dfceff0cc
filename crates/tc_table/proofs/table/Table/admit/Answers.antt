use Rattle.std.proofs.Common.{refl, subst}
use Rattle.tc_table.specs.Tables.{JudgesSide}
use Rattle.tc_table.proofs.Opened.{admitted, not_admitted, reads_on, stays_on}
use Rattle.tc_table.proofs.table.Table.admit.Goals as goal

pub returns-clause-exact : goal.returns-clause-exact
returns-clause-exact g c = subst (JudgesSide g.R.S.Space g.R.Records g.L.Multi g.D.Multi c.args.side c.args.row_keys.now c.args.self.now c.args.space.now) c.if-not-branch.false c.in_ok-check.ensures.exact

pub returns-clause-admits : goal.returns-clause-admits
returns-clause-admits g c =
    admitted g.R.S.Space g.R.Records g.L.Multi g.D.Multi c.args.side c.check.new.side c.args.row_keys.now c.args.self.now c.check.new.self _ c.args.space.now c.check.new.space _ refl
    (subst (JudgesSide g.R.S.Space g.R.Records g.L.Multi g.D.Multi c.args.side c.args.row_keys.now c.args.self.now c.args.space.now) c.if-not-branch.false c.in_ok-check.ensures.exact)
    c.check.ensures.reads c.check.ensures.tree c.check.ensures.stays c.check.ensures.side c.check.ensures.sides refl c.in-Ok.ensures.items

pub returns-then-not-branch-clause-exact : goal.returns-then-not-branch-clause-exact
returns-then-not-branch-clause-exact g c = subst (JudgesSide g.R.S.Space g.R.Records g.L.Multi g.D.Multi c.args.side c.args.row_keys.now c.args.self.now c.args.space.now) c.if-not-branch.true c.in_ok-check.ensures.exact

pub returns-then-not-branch-clause-admits : goal.returns-then-not-branch-clause-admits
returns-then-not-branch-clause-admits g c = not_admitted g.R.S.Space g.R.Records g.L.Multi g.D.Multi c.args.side c.args.row_keys.now c.args.self.now c.check.new.self c.args.space.now c.check.new.space _ refl c.check.ensures.reads c.check.ensures.stays

pub returns-in_default-clause-refused : goal.returns-in_default-clause-refused
returns-in_default-clause-refused g c = reads_on g.R.S.Space g.R.Records g.L.Multi g.D.Multi c.args.self.now c.check.new.self _ c.args.space.now c.check.new.space refl c.in_default.ensures.items c.check.ensures.reads

pub returns-in_default-clause-stays : goal.returns-in_default-clause-stays
returns-in_default-clause-stays g c = stays_on g.R.S.Space g.R.Records g.L.Multi g.D.Multi c.args.self.now c.check.new.self _ refl c.in_default.ensures.items c.check.ensures.stays
