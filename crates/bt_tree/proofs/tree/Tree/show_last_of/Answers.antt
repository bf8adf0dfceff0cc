use Rattle.std.proofs.Common.{◌<◌, ◌^◌, refl, subst, arith}
use Rattle.bt_page.specs.declared.page.Leaf.{Leaf}
use Rattle.bt_tree.specs.Showing.{ShowsLastOf}
use Rattle.bt_tree.proofs.EndPairs.{visits_one}
use Rattle.bt_tree.proofs.tree.Tree.show_last_of.Goals as goal

pub returns-in_err-leaf-clause-stays : goal.returns-in_err-leaf-clause-stays
returns-in_err-leaf-clause-stays g c = g.met.T.Taker.stays_refl c.args.taker.now

pub returns-in_err-leaf-clause-visits : goal.returns-in_err-leaf-clause-visits
returns-in_err-leaf-clause-visits g c =
    let small : c.args.steps.now < 2 ^ 64 = omega (arith, c.count-counted.type_inv, c.count-counted.ensures) in
    visits_one g.R.S.Space g.R.Records c.args.self.now _ c.args.id c.args.steps.now c.leaf.new.steps c.args.space.now c.leaf.new.space small c.leaf.ensures.looks c.leaf.ensures.counts (record { head = refl; height = refl; column = refl })

pub returns-in_err-show_end-clause-visits : goal.returns-in_err-show_end-clause-visits
returns-in_err-show_end-clause-visits g c =
    let small : c.args.steps.now < 2 ^ 64 = omega (arith, c.count-counted.type_inv, c.count-counted.ensures) in
    visits_one g.R.S.Space g.R.Records c.args.self.now _ c.args.id c.args.steps.now c.leaf.new.steps c.args.space.now c.leaf.new.space small c.leaf.ensures.looks c.leaf.ensures.counts (record { head = refl; height = refl; column = refl })

pub returns-clause-visits : goal.returns-clause-visits
returns-clause-visits g c =
    let small : c.args.steps.now < 2 ^ 64 = omega (arith, c.count-counted.type_inv, c.count-counted.ensures) in
    visits_one g.R.S.Space g.R.Records c.args.self.now _ c.args.id c.args.steps.now c.leaf.new.steps c.args.space.now c.leaf.new.space small c.leaf.ensures.looks c.leaf.ensures.counts (record { head = refl; height = refl; column = refl })

pub returns-clause-shown : goal.returns-clause-shown
returns-clause-shown g c = λ m l b page.
    subst (λ (x : Leaf). ShowsLastOf g.T.Taker.takes x c.in_ok-show_end.field-0 c.args.taker.now c.show_end.new.taker) (c.in_ok-leaf.ensures.leaf m l b page) (rw c.deref.ensures at c.in_ok-show_end.ensures.shown)
