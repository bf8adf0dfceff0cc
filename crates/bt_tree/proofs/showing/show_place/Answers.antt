use Rattle.std.proofs.Common.{subst}
use Rattle.std.proofs.lemmas.Result.{IfOk-weaker}
use Rattle.bt_page.specs.declared.page.Item.{Item}
use Rattle.bt_tree.specs.Showing.{ShowsPlace}
use Rattle.bt_tree.proofs.showing.show_place.Goals as goal

pub returns-clause-shown : goal.returns-clause-shown
returns-clause-shown g c = IfOk-weaker _ _ (λ more. ShowsPlace g.T.Taker.takes c.args.leaf.now c.args.place c.args.taker.now c.take.new.self more) (λ more taken. λ x at. subst (λ (y : Item). g.T.Taker.takes c.args.taker.now y c.take.new.self more) (c.lying.ensures x at) taken) c.take.ensures.taken
