use Rattle.std.proofs.Common.{refl, sym, ap, ◌∙◌, arith}
use Rattle.std.proofs.lemmas.Result.{on_ok_weaker}
use Rattle.bt_page.specs.declared.page.Node.{Node}
use Rattle.bt_ways.specs.Removals.{without_place}
use Rattle.bt_tree.proofs.Prunings.{cuts_on, lost_full, lowest_given, lowest_id, lowest_there, read_ready, some_long, way_end, way_lost, way_ready}
use Rattle.bt_tree.proofs.tree.Tree.prune.Goals as goal

pub own_node-requires-clause-ready : goal.own_node-requires-clause-ready
own_node-requires-clause-ready g c = way_ready g.R.S.Space g.R.Records c.loop-id.self _ c.loop-id.space c.in-Some.id c.in-Some.place c.pop.new.self c.in-Some.ensures (record { all = refl; way = refl }) c.loop-id.invariant.ready

pub own_node-requires-clause-there : goal.own_node-requires-clause-there
own_node-requires-clause-there g c = lowest_there g.R.S.Space g.R.Records c.loop-id.self _ c.loop-id.space c.in-Some.id c.in-Some.place c.pop.new.self c.in-Some.ensures (record { all = refl; way = refl }) c.loop-id.invariant.ready

pub drop_page-requires-clause-ready : goal.drop_page-requires-clause-ready
drop_page-requires-clause-ready g c =
    read_ready g.R.S.Space g.R.Records c.loop-id.self _ c.own_node.new.self c.loop-id.space c.own_node.new.space c.in-Some.id c.in-Some.place c.pop.new.self c.in-Some.ensures (record { all = refl; way = refl }) c.own_node.ensures.peeks c.in_ok-node.node c.in_ok-node.ensures.node
    c.loop-id.invariant.ready

pub drop_page-requires-clause-id : goal.drop_page-requires-clause-id
drop_page-requires-clause-id g c =
    lowest_given g.R.S.Space g.R.Records c.loop-id.self _ c.own_node.new.self c.loop-id.space c.own_node.new.space c.in-Some.id c.in-Some.place c.pop.new.self c.in-Some.ensures (record { all = refl; way = refl }) c.own_node.ensures.peeks c.in_ok-node.node c.in_ok-node.ensures.node
    c.loop-id.invariant.ready

pub loop-id-preserved : goal.loop-id-preserved
loop-id-preserved g c =
    cuts_on g.R.S.Space g.R.Records c.loop-id.self _ c.own_node.new.self c.loop-id.space c.own_node.new.space c.in-Some.id c.in-Some.place c.pop.new.self c.in-Some.ensures (record { all = refl; way = refl }) c.own_node.ensures.peeks c.in_ok-node.node c.in_ok-node.ensures.node
    (sym c.len.ensures ∙ c.if-len-eq0.true) c.drop_page.new.self c.drop_page.new.space c.in_ok-drop_page.ensures.out c.in_ok-drop_page.ensures.still c.args.self.now c.args.space.now c.loop-id.invariant

pub put_node-requires-clause-ready : goal.put_node-requires-clause-ready
put_node-requires-clause-ready g c =
    read_ready g.R.S.Space g.R.Records c.loop-id.self _ c.own_node.new.self c.loop-id.space c.own_node.new.space c.in-Some.id c.in-Some.place c.pop.new.self c.in-Some.ensures (record { all = refl; way = refl }) c.own_node.ensures.peeks c.in_ok-node.node c.in_ok-node.ensures.node
    c.loop-id.invariant.ready

pub put_node-requires-clause-id : goal.put_node-requires-clause-id
put_node-requires-clause-id g c =
    lowest_id g.R.S.Space g.R.Records c.loop-id.self _ c.own_node.new.self c.loop-id.space c.own_node.new.space c.in-Some.id c.in-Some.place c.pop.new.self c.in-Some.ensures (record { all = refl; way = refl }) c.own_node.ensures.peeks c.in_ok-node.node c.in_ok-node.ensures.node
    c.loop-id.invariant.ready

pub returns-in-Some-clause-cut : goal.returns-in-Some-clause-cut
returns-in-Some-clause-cut g c =
    let whole = c.in_ok-node-2.ensures ∙ c.without_child-node.ensures ∙ ap (λ (n : Node). without_place c.in-Some.place n) c.in_ok-to_node.ensures in
    on_ok_weaker c.put_node.result
    (λ put. c.loop-id.invariant.rest c.put_node.new.self c.put_node.new.space
    (way_lost g.R.S.Space g.R.Records c.loop-id.self _ c.own_node.new.self c.loop-id.space c.own_node.new.space c.in-Some.id c.in-Some.place c.pop.new.self c.in-Some.ensures (record { all = refl; way = refl }) c.own_node.ensures.peeks c.in_ok-node.node c.in_ok-node.ensures.node
    (some_long c.in_ok-node.node.entries c.len.result c.len.ensures c.if-len-eq0.false) (omega (arith, c.if-place-len.false, c.len-in-Some.ensures)) c.put_node.new.self c.put_node.new.space put))
    (rw whole at c.put_node.ensures.put)

pub returns-in-Some-clause-full : goal.returns-in-Some-clause-full
returns-in-Some-clause-full g c = λ is.
    let whole = c.in_ok-node-2.ensures ∙ c.without_child-node.ensures ∙ ap (λ (n : Node). without_place c.in-Some.place n) c.in_ok-to_node.ensures in
    c.loop-id.invariant.full c.put_node.new.space
    (lost_full g.R.S.Space g.R.Records c.loop-id.self _ c.own_node.new.self c.loop-id.space c.own_node.new.space c.in-Some.id c.in-Some.place c.pop.new.self c.in-Some.ensures (record { all = refl; way = refl }) c.own_node.ensures.peeks c.in_ok-node.node c.in_ok-node.ensures.node
    (some_long c.in_ok-node.node.entries c.len.result c.len.ensures c.if-len-eq0.false) (omega (arith, c.if-place-len.false, c.len-in-Some.ensures)) c.put_node.new.space (rw whole at (c.put_node.ensures.full is)))

pub returns-clause-cut : goal.returns-clause-cut
returns-clause-cut g c = c.loop-id.invariant.rest _ c.loop-id.space (way_end g.R.S.Space g.R.Records c.loop-id.self _ c.loop-id.space c.loop-id.invariant.ready.sound c.in_default.ensures.0 refl refl refl refl)
