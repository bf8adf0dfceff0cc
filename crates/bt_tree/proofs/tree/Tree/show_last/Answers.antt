use Rattle.std.proofs.lemmas.Result.{IfOk-weaker}
use Rattle.bt_rows.proofs.Ordered.{orders_are_strict}
use Rattle.bt_tree.proofs.Descents.{looks_ready}
use Rattle.bt_tree.proofs.EndLeaves.{last_there, shown_last}
use Rattle.bt_tree.proofs.Finds.{asks_of}
use Rattle.bt_tree.specs.Costs.{looks_refl}
use Rattle.bt_tree.proofs.tree.Tree.show_last.Goals as goal

pub show_last_of-requires-clause-ready : goal.show_last_of-requires-clause-ready
show_last_of-requires-clause-ready g c =
    looks_ready g.R.S.Space g.R.Records g.O.Order c.args.self.now c.args.self.now.cache c.args.self.now.store c.args.space.now c.args.space.now
    (looks_refl g.R.S.Space g.R.Records c.args.self.now.cache c.args.self.now.store c.args.space.now c.requires.sound) c.requires

pub show_last_of-requires-clause-there : goal.show_last_of-requires-clause-there
show_last_of-requires-clause-there g c = last_there g.R.S.Space g.R.Records g.O.Order c.args.self.now c.args.space.now (orders_are_strict g.O.Order.cmp g.met.O.Order.total g.met.O.Order.exact) c.requires

pub returns-clause-shown : goal.returns-clause-shown
returns-clause-shown g c = IfOk-weaker _ _ _ (λ held shows.
    shown_last g.R.S.Space g.R.Records g.O.Order c.args.self.now c.args.space.now g.T.Taker.takes held c.args.taker.now c.show_last_of.new.taker (orders_are_strict g.O.Order.cmp g.met.O.Order.total g.met.O.Order.exact) shows) c.show_last_of.ensures.shown

pub returns-clause-asks : goal.returns-clause-asks
returns-clause-asks g c = asks_of _ _ _ _ _ _ _ _ _ _ c.show_last_of.ensures.visits
