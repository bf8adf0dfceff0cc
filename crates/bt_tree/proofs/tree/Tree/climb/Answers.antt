use Rattle.std.proofs.Common.{◌≡◌, ◌∙◌, length, refl, sym, ap, arith}
use Rattle.std.proofs.lemmas.Result.{on_ok_weaker}
use Rattle.bt_page.specs.declared.page.Node.{Node}
use Rattle.bt_page.proofs.Runs.{err_handed}
use Rattle.bt_rows.specs.declared.head.TreeHead.{TreeHead}
use Rattle.bt_tree.proofs.Climbings.{climbing_on, climbs_begin, climbs_end, end_ready, lacks_end, lacks_half, lacks_whole, node_at, read_ready, step_given, took, took_same, way_ready}
use Rattle.bt_tree.proofs.tree.Tree.climb.Goals as goal

pub loop-id-init : goal.loop-id-init
loop-id-init g c = climbs_begin g.R.S.Space g.R.Records c.args.self.now c.args.space.now c.args.added c.requires.ready c.requires.few

pub own_node-requires-clause-ready : goal.own_node-requires-clause-ready
own_node-requires-clause-ready g c = way_ready g.R.S.Space g.R.Records c.loop-id.self _ c.loop-id.space c.pop.new.self (record { all = refl; way = refl }) c.loop-id.invariant.ready

pub own_node-requires-clause-there : goal.own_node-requires-clause-there
own_node-requires-clause-there g c = node_at g.R.S.Space g.R.Records c.loop-id.self _ c.loop-id.space c.in-Some.id c.in-Some.place c.pop.new.self (record { all = refl; way = refl }) c.in-Some.ensures c.loop-id.invariant.ready

pub put_node-requires-clause-ready : goal.put_node-requires-clause-ready
put_node-requires-clause-ready g c =
    read_ready g.R.S.Space g.R.Records c.loop-id.self _ c.own_node.new.self c.loop-id.space c.own_node.new.space c.in-Some.id c.in-Some.place c.pop.new.self (record { all = refl; way = refl }) c.in-Some.ensures c.own_node.ensures.peeks c.in_ok-node.node c.in_ok-node.ensures.node c.loop-id.more c.loop-id.invariant.few c.loop-id.invariant.ready

pub put_node-requires-clause-id : goal.put_node-requires-clause-id
put_node-requires-clause-id g c =
    step_given g.R.S.Space g.R.Records c.loop-id.self _ c.own_node.new.self c.loop-id.space c.own_node.new.space c.in-Some.id c.in-Some.place c.pop.new.self (record { all = refl; way = refl }) c.in-Some.ensures c.own_node.ensures.peeks c.in_ok-node.node c.in_ok-node.ensures.node c.loop-id.more c.loop-id.invariant.few c.loop-id.invariant.ready

pub returns-then-len-self-clause-climbed : goal.returns-then-len-self-clause-climbed
returns-then-len-self-clause-climbed g c =
    let limit : c.own_node.new.self.head.node_limit ≡ c.loop-id.self.head.node_limit = ap (λ (x : TreeHead). x.node_limit) c.own_node.ensures.peeks.still.head in
    on_ok_weaker c.put_node.result
    (λ f. c.loop-id.invariant.rest c.put_node.new.self c.put_node.new.space (took g.R.S.Space g.R.Records c.loop-id.self _ c.own_node.new.self c.loop-id.space c.own_node.new.space c.in-Some.id c.in-Some.place c.pop.new.self (record { all = refl; way = refl }) c.in-Some.ensures c.own_node.ensures.peeks c.in_ok-node.node c.in_ok-node.ensures.node c.loop-id.more c.loop-id.invariant.few c.put_node.new.self c.put_node.new.space
    (omega (arith, c.if-len-self.true, c.len.ensures, ap (λ (n : Node). length n.entries) (took_same c.in_ok-node.node c.in_ok-node-2.node c.in-Some.place c.as_slice.result.now c.loop-id.more c.in_ok-node-2.ensures c.as_slice.ensures), limit)) f c.put_node.ensures.still))
    (rw (took_same c.in_ok-node.node c.in_ok-node-2.node c.in-Some.place c.as_slice.result.now c.loop-id.more c.in_ok-node-2.ensures c.as_slice.ensures) at c.put_node.ensures.put)

pub returns-then-len-self-clause-full : goal.returns-then-len-self-clause-full
returns-then-len-self-clause-full g c = λ is.
    let limit : c.own_node.new.self.head.node_limit ≡ c.loop-id.self.head.node_limit = ap (λ (x : TreeHead). x.node_limit) c.own_node.ensures.peeks.still.head in
    c.loop-id.invariant.full c.put_node.new.space (lacks_whole g.R.S.Space g.R.Records c.loop-id.self _ c.own_node.new.self c.loop-id.space c.own_node.new.space c.in-Some.id c.in-Some.place c.pop.new.self (record { all = refl; way = refl }) c.in-Some.ensures c.own_node.ensures.peeks c.in_ok-node.node c.in_ok-node.ensures.node c.loop-id.more c.loop-id.invariant.few c.put_node.new.space
    (omega (arith, c.if-len-self.true, c.len.ensures, ap (λ (n : Node). length n.entries) (took_same c.in_ok-node.node c.in_ok-node-2.node c.in-Some.place c.as_slice.result.now c.loop-id.more c.in_ok-node-2.ensures c.as_slice.ensures), limit)) ((rw (took_same c.in_ok-node.node c.in_ok-node-2.node c.in-Some.place c.as_slice.result.now c.loop-id.more c.in_ok-node-2.ensures c.as_slice.ensures) at c.put_node.ensures.full) is))

pub divide-requires-clause-ready : goal.divide-requires-clause-ready
divide-requires-clause-ready g c =
    read_ready g.R.S.Space g.R.Records c.loop-id.self _ c.own_node.new.self c.loop-id.space c.own_node.new.space c.in-Some.id c.in-Some.place c.pop.new.self (record { all = refl; way = refl }) c.in-Some.ensures c.own_node.ensures.peeks c.in_ok-node.node c.in_ok-node.ensures.node c.loop-id.more c.loop-id.invariant.few c.loop-id.invariant.ready

pub divide-requires-clause-id : goal.divide-requires-clause-id
divide-requires-clause-id g c =
    step_given g.R.S.Space g.R.Records c.loop-id.self _ c.own_node.new.self c.loop-id.space c.own_node.new.space c.in-Some.id c.in-Some.place c.pop.new.self (record { all = refl; way = refl }) c.in-Some.ensures c.own_node.ensures.peeks c.in_ok-node.node c.in_ok-node.ensures.node c.loop-id.more c.loop-id.invariant.few c.loop-id.invariant.ready

pub returns-in_err-above-clause-full : goal.returns-in_err-above-clause-full
returns-in_err-above-clause-full g c = λ is.
    c.loop-id.invariant.full c.divide.new.space
    (lacks_half g.R.S.Space g.R.Records c.loop-id.self _ c.own_node.new.self c.loop-id.space c.own_node.new.space c.in-Some.id c.in-Some.place c.pop.new.self (record { all = refl; way = refl }) c.in-Some.ensures c.own_node.ensures.peeks c.in_ok-node.node c.in_ok-node.ensures.node c.loop-id.more c.loop-id.invariant.few c.divide.new.space
    ((rw (took_same c.in_ok-node.node c.in_ok-node-2.node c.in-Some.place c.as_slice.result.now c.loop-id.more c.in_ok-node-2.ensures c.as_slice.ensures) at c.in_err-above.ensures.full) (err_handed c.from_residual-in_err-above.result _ _ c.from_residual-in_err-above.ensures.1 is)))

pub loop-id-smaller : goal.loop-id-smaller
loop-id-smaller g c = omega (arith, ap length (c.divide.ensures.way.0 ∙ c.own_node.ensures.peeks.still.path), ap length c.in-Some.ensures)

pub loop-id-preserved : goal.loop-id-preserved
loop-id-preserved g c =
    let limit : c.own_node.new.self.head.node_limit ≡ c.loop-id.self.head.node_limit = ap (λ (x : TreeHead). x.node_limit) c.own_node.ensures.peeks.still.head in
    climbing_on g.R.S.Space g.R.Records c.loop-id.self _ c.own_node.new.self c.loop-id.space c.own_node.new.space c.in-Some.id c.in-Some.place c.pop.new.self (record { all = refl; way = refl }) c.in-Some.ensures c.own_node.ensures.peeks c.in_ok-node.node c.in_ok-node.ensures.node c.loop-id.more c.loop-id.invariant.few
    c.divide.new.self c.divide.new.space c.in_ok-above.above (rw (took_same c.in_ok-node.node c.in_ok-node-2.node c.in-Some.place c.as_slice.result.now c.loop-id.more c.in_ok-node-2.ensures c.as_slice.ensures) at c.in_ok-above.ensures.divided) c.divide.ensures.grows c.divide.ensures.way
    (omega (arith, c.if-len-self.false, c.len.ensures, ap (λ (n : Node). length n.entries) (took_same c.in_ok-node.node c.in_ok-node-2.node c.in-Some.place c.as_slice.result.now c.loop-id.more c.in_ok-node-2.ensures c.as_slice.ensures), limit))
    c.args.self.now c.args.space.now c.args.added c.in_ok-above.ensures.one c.loop-id.invariant

pub grow-requires-clause-ready : goal.grow-requires-clause-ready
grow-requires-clause-ready g c = end_ready g.R.S.Space g.R.Records c.loop-id.self _ c.loop-id.space c.pop.new.self (record { all = refl; way = refl }) (c.in_default.ensures.1 ∙ sym c.in_default.ensures.0) c.loop-id.invariant.ready

pub grow-requires-clause-few : goal.grow-requires-clause-few
grow-requires-clause-few g c = c.loop-id.invariant.few

pub grow-requires-clause-rows : goal.grow-requires-clause-rows
grow-requires-clause-rows g c = omega (arith, c.loop-id.invariant.grows.rows_most, c.requires.rows)

pub returns-clause-climbed : goal.returns-clause-climbed
returns-clause-climbed g c =
    on_ok_weaker c.grow.result
    (λ f. c.loop-id.invariant.rest c.grow.new.self c.grow.new.space
    (climbs_end g.R.S.Space g.R.Records c.loop-id.self _ c.loop-id.space c.pop.new.self (record { all = refl; way = refl }) (c.in_default.ensures.1 ∙ sym c.in_default.ensures.0) c.grow.new.self c.grow.new.space c.loop-id.more f))
    c.grow.ensures.climbed

pub returns-clause-full : goal.returns-clause-full
returns-clause-full g c = λ is.
    c.loop-id.invariant.full c.grow.new.space
    (lacks_end g.R.S.Space g.R.Records c.loop-id.self _ c.loop-id.space c.grow.new.space c.loop-id.more c.pop.new.self (record { all = refl; way = refl }) c.in_default.ensures.0 (c.grow.ensures.full is))
