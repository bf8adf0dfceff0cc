use Rattle.std.proofs.Common.{◌<◌, length, arith}
use Rattle.bt_page.proofs.Runs.{err_handed}
use Rattle.bt_tree.proofs.Partings.{lays_given, lays_lacks, lays_more, lays_ready}
use Rattle.bt_tree.proofs.tree.Tree.lay.Goals as goal

pub put_leaf-requires-clause-ready : goal.put_leaf-requires-clause-ready
put_leaf-requires-clause-ready g c =
    lays_ready g.R.S.Space g.R.Records c.args.leaves c.args.self.now c.args.space.now c.loop-rest.self c.loop-rest.space c.loop-rest.rest.items c.loop-rest.invariant c.requires.ready

pub put_leaf-requires-clause-id : goal.put_leaf-requires-clause-id
put_leaf-requires-clause-id g c =
    let some : 0 < length c.loop-rest.rest.items = omega (arith, c.remove-laid.ensures.len, c.loop-rest.rest.ok.0) in
    lays_given g.R.S.Space g.R.Records c.args.leaves c.args.self.now c.args.space.now c.loop-rest.self c.loop-rest.space c.loop-rest.rest.items c.loop-rest.invariant
    c.remove-laid.result c.remove-laid.new.self.items some c.remove-laid.ensures.value c.remove-laid.ensures.items c.requires.ids

pub returns-in_err-put_leaf-clause-full : goal.returns-in_err-put_leaf-clause-full
returns-in_err-put_leaf-clause-full g c = λ is.
    let some : 0 < length c.loop-rest.rest.items = omega (arith, c.remove-laid.ensures.len, c.loop-rest.rest.ok.0) in
    lays_lacks g.R.S.Space g.R.Records c.args.leaves c.args.self.now c.args.space.now c.loop-rest.self c.loop-rest.space c.loop-rest.rest.items c.loop-rest.invariant
    c.remove-laid.result c.remove-laid.new.self.items some c.remove-laid.ensures.value c.remove-laid.ensures.items c.put_leaf.new.space (c.in_err-put_leaf.ensures.full (err_handed c.from_residual.result _ _ c.from_residual.ensures.1 is))

pub loop-rest-preserved : goal.loop-rest-preserved
loop-rest-preserved g c =
    let some : 0 < length c.loop-rest.rest.items = omega (arith, c.remove-laid.ensures.len, c.loop-rest.rest.ok.0) in
    lays_more g.R.S.Space g.R.Records c.args.leaves c.args.self.now c.args.space.now c.loop-rest.self c.loop-rest.space c.loop-rest.rest.items c.loop-rest.invariant
    c.remove-laid.result c.remove-laid.new.self.items some c.remove-laid.ensures.value c.remove-laid.ensures.items c.put_leaf.new.self c.put_leaf.new.space c.in_ok-put_leaf.ensures.put c.put_leaf.ensures.still
