use Rattle.std.proofs.Common.{true, false, Option, refl, sym, ◌∙◌, subst, arith}
use Rattle.bt_page.specs.declared.page.Item.{Item}
use Rattle.bt_slots.proofs.Places.{some_at}
use Rattle.bt_tree.specs.Showing.{ShownOf}
use Rattle.bt_tree.proofs.Ends.{start_none}
use Rattle.bt_tree.proofs.showing.show_start.Goals as goal

pub returns-then-len-eq0-clause-shown : goal.returns-then-len-eq0-clause-shown
returns-then-len-eq0-clause-shown g c =
    subst (λ (o : Option Item). ShownOf g.T.Taker.takes o false c.args.taker.now c.args.taker.now) (start_none c.args.leaf.now.items (sym c.len-len.ensures ∙ c.if-len-eq0.true)) (refl, refl)

pub returns-then-len-eq0-clause-stays : goal.returns-then-len-eq0-clause-stays
returns-then-len-eq0-clause-stays g c = g.met.T.Taker.stays_refl c.args.taker.now

pub returns-clause-shown : goal.returns-clause-shown
returns-clause-shown g c =
    let x = some_at c.args.leaf.now.items 0 (omega (arith, c.if-len-eq0.false, c.len-len.ensures)) in
    subst (λ (o : Option Item). ShownOf g.T.Taker.takes o true c.args.taker.now c.show_place.new.taker) (sym x.1) (refl, c.in_ok-_more._more, c.in_ok-_more.ensures.shown x.0 x.1)
