use Rattle.std.proofs.Common.{subst, sym}
use Rattle.std.specs.Prelude.{IfOk, IfSome, is_some}
use Rattle.tc_base.specs.declared.kind.Mode.{Mode}
use Rattle.tc_treedb.specs.Changing.{FillsFor, Takes, TellsLengths, stored_in}
use Rattle.tc_treedb.proofs.storing.store_first.Goals as goal

pub returns-in-Over-clause-takes : goal.returns-in-Over-clause-takes
returns-in-Over-clause-takes g c = subst (λ (m : Mode). IfOk c.over.result (λ done. Takes g.R.S.Space g.R.Records g.O.Order (stored_in g.O.Order.cmp m c.args.key.now c.args.value.now) (is_some done) c.args.tree.now c.over.new.tree c.args.space.now c.over.new.space)) (sym c.in-Over.is) c.over.ensures.takes

pub returns-in-Over-clause-lengths : goal.returns-in-Over-clause-lengths
returns-in-Over-clause-lengths g c = subst (λ (m : Mode). IfOk c.over.result (λ done. IfSome done (λ l. TellsLengths g.R.S.Space g.R.Records g.O.Order m c.args.key.now c.args.value.now l c.args.tree.now c.args.space.now))) (sym c.in-Over.is) c.over.ensures.lengths

pub returns-in-Over-clause-full : goal.returns-in-Over-clause-full
returns-in-Over-clause-full g c = λ full. subst (λ (m : Mode). FillsFor g.R.S.Space g.R.Records g.O.Order (stored_in g.O.Order.cmp m c.args.key.now c.args.value.now) c.args.tree.now c.args.space.now c.over.new.space) (sym c.in-Over.is) (c.over.ensures.full full)

pub returns-in-Keep-clause-takes : goal.returns-in-Keep-clause-takes
returns-in-Keep-clause-takes g c = subst (λ (m : Mode). IfOk c.keep.result (λ done. Takes g.R.S.Space g.R.Records g.O.Order (stored_in g.O.Order.cmp m c.args.key.now c.args.value.now) (is_some done) c.args.tree.now c.keep.new.tree c.args.space.now c.keep.new.space)) (sym c.in-Keep.is) c.keep.ensures.takes

pub returns-in-Keep-clause-lengths : goal.returns-in-Keep-clause-lengths
returns-in-Keep-clause-lengths g c = subst (λ (m : Mode). IfOk c.keep.result (λ done. IfSome done (λ l. TellsLengths g.R.S.Space g.R.Records g.O.Order m c.args.key.now c.args.value.now l c.args.tree.now c.args.space.now))) (sym c.in-Keep.is) c.keep.ensures.lengths

pub returns-in-Keep-clause-full : goal.returns-in-Keep-clause-full
returns-in-Keep-clause-full g c = λ full. subst (λ (m : Mode). FillsFor g.R.S.Space g.R.Records g.O.Order (stored_in g.O.Order.cmp m c.args.key.now c.args.value.now) c.args.tree.now c.args.space.now c.keep.new.space) (sym c.in-Keep.is) (c.keep.ensures.full full)

pub returns-in-Cat-clause-takes : goal.returns-in-Cat-clause-takes
returns-in-Cat-clause-takes g c = subst (λ (m : Mode). IfOk c.join.result (λ done. Takes g.R.S.Space g.R.Records g.O.Order (stored_in g.O.Order.cmp m c.args.key.now c.args.value.now) (is_some done) c.args.tree.now c.join.new.tree c.args.space.now c.join.new.space)) (sym c.in-Cat.is) c.join.ensures.takes

pub returns-in-Cat-clause-lengths : goal.returns-in-Cat-clause-lengths
returns-in-Cat-clause-lengths g c = subst (λ (m : Mode). IfOk c.join.result (λ done. IfSome done (λ l. TellsLengths g.R.S.Space g.R.Records g.O.Order m c.args.key.now c.args.value.now l c.args.tree.now c.args.space.now))) (sym c.in-Cat.is) c.join.ensures.lengths

pub returns-in-Cat-clause-full : goal.returns-in-Cat-clause-full
returns-in-Cat-clause-full g c = λ full. subst (λ (m : Mode). FillsFor g.R.S.Space g.R.Records g.O.Order (stored_in g.O.Order.cmp m c.args.key.now c.args.value.now) c.args.tree.now c.args.space.now c.join.new.space) (sym c.in-Cat.is) (c.join.ensures.full full)
