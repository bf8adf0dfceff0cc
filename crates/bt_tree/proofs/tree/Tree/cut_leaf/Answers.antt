use Rattle.std.proofs.Common.{inr}
use Rattle.std.proofs.lemmas.Result.{on_ok_weaker}
use Rattle.bt_page.proofs.Runs.{err_handed}
use Rattle.bt_rows.proofs.Ordered.{orders_are_strict}
use Rattle.bt_tree.proofs.Unlinkings.{last_given, leaf_cut, links_full, links_ready, prune_full, prune_ready, sink_ready}
use Rattle.bt_tree.proofs.tree.Tree.cut_leaf.Goals as goal

pub unlink-requires-clause-ready : goal.unlink-requires-clause-ready
unlink-requires-clause-ready g c = links_ready g.R.S.Space g.R.Records g.O.Order c.args.id c.args.prev c.args.next c.args.self.now c.args.space.now c.requires.ready

pub unlink-requires-clause-given : goal.unlink-requires-clause-given
unlink-requires-clause-given g c = last_given g.R.S.Space g.R.Records g.O.Order c.args.id c.args.prev c.args.next c.args.self.now c.args.space.now c.requires.ready

pub returns-in_err-unlink-clause-full : goal.returns-in_err-unlink-clause-full
returns-in_err-unlink-clause-full g c = λ is. links_full g.R.S.Space g.R.Records g.O.Order c.args.id c.args.prev c.args.next c.args.self.now c.args.space.now c.unlink.new.space (c.in_err-unlink.ensures.full (err_handed c.from_residual.result _ _ c.from_residual.ensures.1 is))

pub prune-requires : goal.prune-requires
prune-requires g c =
    prune_ready g.R.S.Space g.R.Records g.O.Order c.args.id c.args.prev c.args.next (orders_are_strict g.O.Order.cmp g.met.O.Order.total g.met.O.Order.exact) c.requires.beside c.args.self.now c.unlink.new.self c.args.space.now c.unlink.new.space
    c.in_ok-unlink.ensures.unlinked c.in_ok-unlink.ensures.narrows c.in_ok-unlink.ensures.same c.in_ok-unlink.ensures.beside c.requires.ready

pub returns-in_err-prune-clause-full : goal.returns-in_err-prune-clause-full
returns-in_err-prune-clause-full g c = λ is.
    prune_full g.R.S.Space g.R.Records g.O.Order c.args.id c.args.prev c.args.next (orders_are_strict g.O.Order.cmp g.met.O.Order.total g.met.O.Order.exact) c.requires.beside c.args.self.now c.unlink.new.self c.args.space.now c.unlink.new.space
    c.in_ok-unlink.ensures.unlinked c.in_ok-unlink.ensures.narrows c.in_ok-unlink.ensures.same c.in_ok-unlink.ensures.beside
    c.prune.new.space (c.in_err-prune.ensures.full (err_handed c.from_residual-in_err-prune.result _ _ c.from_residual-in_err-prune.ensures.1 is))

pub sink-requires : goal.sink-requires
sink-requires g c =
    sink_ready g.R.S.Space g.R.Records g.O.Order c.args.id c.args.prev c.args.next (orders_are_strict g.O.Order.cmp g.met.O.Order.total g.met.O.Order.exact) c.requires.beside c.args.self.now c.unlink.new.self c.args.space.now c.unlink.new.space
    c.in_ok-unlink.ensures.unlinked c.in_ok-unlink.ensures.narrows c.in_ok-unlink.ensures.same c.in_ok-unlink.ensures.beside
    c.prune.new.self c.prune.new.space c.in_ok-prune.ensures.cut c.in_ok-prune.ensures.narrows c.in_ok-prune.ensures.same c.requires.ready

pub returns-clause-vacated : goal.returns-clause-vacated
returns-clause-vacated g c =
    on_ok_weaker c.sink.result
    (λ sunk. leaf_cut g.R.S.Space g.R.Records g.O.Order c.args.id c.args.prev c.args.next (orders_are_strict g.O.Order.cmp g.met.O.Order.total g.met.O.Order.exact) c.requires.beside c.args.self.now c.unlink.new.self c.args.space.now c.unlink.new.space
    c.in_ok-unlink.ensures.unlinked c.in_ok-unlink.ensures.narrows c.in_ok-unlink.ensures.same c.in_ok-unlink.ensures.beside
    c.prune.new.self c.prune.new.space c.in_ok-prune.ensures.cut c.in_ok-prune.ensures.narrows c.in_ok-prune.ensures.same
    c.sink.new.self c.sink.new.space sunk c.sink.ensures.narrows c.sink.ensures.ends)
    c.sink.ensures.sunk

pub returns-clause-full : goal.returns-clause-full
returns-clause-full g c = λ is. inr (c.sink.ensures.full is)
