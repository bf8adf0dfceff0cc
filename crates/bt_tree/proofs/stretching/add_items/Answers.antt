use Rattle.std.proofs.Common.{arith, sym, ◌∙◌}
use Rattle.bt_tree.proofs.Cuts.{placed_out, placed_full, placed_more, placed_all}
use Rattle.bt_tree.proofs.stretching.add_items.Goals as goal

pub returns-then-not-has : goal.returns-then-not-has
returns-then-not-has g c = λ some.
    placed_out (g.C.Cut.side_of c.args.cut.now) c.args.max c.args.leaf.now.items c.args.pairs.now c.loop-i.pairs c.args.place c.loop-i.i (omega (arith, c.loop-i.auto.i)) c.loop-i.invariant (omega (arith, c.loop-i-test.true, c.len-i-end.ensures)) c.key.result.now c.key.ensures some
    (sym c.has.ensures ∙ c.if-not-has.true)

pub returns-then-not-branch : goal.returns-then-not-branch
returns-then-not-branch g c = λ some.
    placed_full (g.C.Cut.side_of c.args.cut.now) c.args.max c.args.leaf.now.items c.args.pairs.now c.loop-i.pairs c.args.place c.loop-i.i (omega (arith, c.loop-i.auto.i)) c.loop-i.invariant (omega (arith, c.loop-i-test.true, c.len-i-end.ensures)) c.key.result.now c.key.ensures c.add_item.new.pairs
    (sym c.has.ensures ∙ c.if-not-has.false) (rw c.if-not-branch.true at c.in_ok-add_item.ensures)

pub loop-i-preserved : goal.loop-i-preserved
loop-i-preserved g c =
    placed_more (g.C.Cut.side_of c.args.cut.now) c.args.max c.args.leaf.now.items c.args.pairs.now c.loop-i.pairs c.args.place c.loop-i.i (omega (arith, c.loop-i.auto.i)) c.loop-i.invariant (omega (arith, c.loop-i-test.true, c.len-i-end.ensures)) c.key.result.now c.key.ensures c.add_item.new.pairs
    (sym c.has.ensures ∙ c.if-not-has.false) (rw c.if-not-branch.false at c.in_ok-add_item.ensures)

pub returns : goal.returns
returns g c = λ some.
    placed_all (g.C.Cut.side_of c.args.cut.now) c.args.max c.args.leaf.now.items c.args.pairs.now c.loop-i.pairs c.args.place c.loop-i.i (omega (arith, c.loop-i.auto.i)) c.loop-i.invariant (omega (arith, c.loop-i-test.false, c.len-i-end.ensures))
