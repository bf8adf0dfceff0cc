use Rattle.std.proofs.Common.{◌<◌, ◌^◌, refl, subst, arith}
use Rattle.bt_page.specs.declared.page.Leaf.{Leaf}
use Rattle.bt_rows.specs.Orders.{before_by}
use Rattle.bt_rows.specs.Rules.{Ascends}
use Rattle.bt_tree.specs.Seeking.{CopiesFrom}
use Rattle.bt_tree.proofs.EndPairs.{visits_one}
use Rattle.bt_tree.proofs.tree.Tree.copies_of.Goals as goal

pub returns-in_err-leaf-clause-visits : goal.returns-in_err-leaf-clause-visits
returns-in_err-leaf-clause-visits g c =
    let small : c.args.steps.now < 2 ^ 64 = omega (arith, c.count-counted.type_inv, c.count-counted.ensures) in
    visits_one g.R.S.Space g.R.Records c.args.self.now _ c.args.id c.args.steps.now c.leaf.new.steps c.args.space.now c.leaf.new.space small c.leaf.ensures.looks c.leaf.ensures.counts (record { head = refl; height = refl; column = refl })

pub returns-in_err-items-clause-visits : goal.returns-in_err-items-clause-visits
returns-in_err-items-clause-visits g c =
    let small : c.args.steps.now < 2 ^ 64 = omega (arith, c.count-counted.type_inv, c.count-counted.ensures) in
    visits_one g.R.S.Space g.R.Records c.args.self.now _ c.args.id c.args.steps.now c.leaf.new.steps c.args.space.now c.leaf.new.space small c.leaf.ensures.looks c.leaf.ensures.counts (record { head = refl; height = refl; column = refl })

pub returns-clause-visits : goal.returns-clause-visits
returns-clause-visits g c =
    let small : c.args.steps.now < 2 ^ 64 = omega (arith, c.count-counted.type_inv, c.count-counted.ensures) in
    visits_one g.R.S.Space g.R.Records c.args.self.now _ c.args.id c.args.steps.now c.leaf.new.steps c.args.space.now c.leaf.new.space small c.leaf.ensures.looks c.leaf.ensures.counts (record { head = refl; height = refl; column = refl })

pub returns-clause-copies : goal.returns-clause-copies
returns-clause-copies g c = λ m l b page.
    subst (λ (x : Leaf). Ascends (before_by g.O.Order.cmp) x.items → CopiesFrom (g.C.Cut.side_of c.args.cut.now) x c.in_ok-items.items c.next.result) (c.in_ok-leaf.ensures.leaf m l b page)
    (λ asc. record {
      place = c.start-place.result;
      start = (rw c.deref.ensures at c.start-place.ensures.start) asc;
      are = rw c.deref-2.ensures at c.in_ok-items.ensures;
      on = rw c.deref-3.ensures at c.next.ensures;
    })
