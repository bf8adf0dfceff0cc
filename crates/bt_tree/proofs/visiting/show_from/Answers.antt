use Rattle.std.proofs.Common.{◌≡◌, ℕ, ◌<◌, List, true, false, length, sym, ap, ◌∙◌, subst, arith}
use Rattle.tc_space.specs.Changes.{is_inside}
use Rattle.bt_page.specs.declared.page.Item.{Item}
use Rattle.bt_slots.proofs.Places.{some_at}
use Rattle.bt_tree.proofs.Shows.{from_all, from_enough, from_more, from_out, showing_from}
use Rattle.bt_tree.proofs.visiting.show_from.Goals as goal

pub loop-i-init : goal.loop-i-init
loop-i-init g c = (showing_from g.T.Taker.takes (g.C.Cut.side_of c.args.cut.now) c.args.leaf.now.items c.args.place c.args.taker.now, g.met.T.Taker.stays_refl c.args.taker.now)

pub returns-then-not-has-clause-shown : goal.returns-then-not-has-clause-shown
returns-then-not-has-clause-shown g c =
    let lt : c.loop-i.i < length c.args.leaf.now.items = omega (arith, c.loop-i-test.true, c.len-i-end.ensures) in
    let x = some_at c.args.leaf.now.items c.loop-i.i lt in
    let out : is_inside (g.C.Cut.side_of c.args.cut.now x.0.key) ≡ false = ap (λ (k : List ℕ). is_inside (g.C.Cut.side_of c.args.cut.now k)) (sym (c.key.ensures x.0 x.1)) ∙ (sym c.has.ensures ∙ c.if-not-has.true) in
    from_out g.T.Taker.takes (g.C.Cut.side_of c.args.cut.now) c.args.leaf.now.items c.args.taker.now c.loop-i.taker c.args.place c.loop-i.i (omega (arith, c.loop-i.auto.i)) c.loop-i.invariant.0 lt x.0 x.1 out

pub returns-then-not-has-clause-stays : goal.returns-then-not-has-clause-stays
returns-then-not-has-clause-stays g c = c.loop-i.invariant.1

pub returns-in_err-take-clause-stays : goal.returns-in_err-take-clause-stays
returns-in_err-take-clause-stays g c = g.met.T.Taker.stays_then c.args.taker.now c.loop-i.taker c.take.new.self c.loop-i.invariant.1 c.take.ensures.stays

pub returns-then-not-branch-clause-shown : goal.returns-then-not-branch-clause-shown
returns-then-not-branch-clause-shown g c =
    let lt : c.loop-i.i < length c.args.leaf.now.items = omega (arith, c.loop-i-test.true, c.len-i-end.ensures) in
    let x = some_at c.args.leaf.now.items c.loop-i.i lt in
    let yes : is_inside (g.C.Cut.side_of c.args.cut.now x.0.key) ≡ true = ap (λ (k : List ℕ). is_inside (g.C.Cut.side_of c.args.cut.now k)) (sym (c.key.ensures x.0 x.1)) ∙ (sym c.has.ensures ∙ c.if-not-has.false) in
    let taken = subst (λ (y : Item). g.T.Taker.takes c.loop-i.taker y c.take.new.self false) (c.lying.ensures x.0 x.1) (rw c.if-not-branch.true at c.in_ok-take.ensures.taken) in
    from_enough g.T.Taker.takes (g.C.Cut.side_of c.args.cut.now) c.args.leaf.now.items c.args.taker.now c.loop-i.taker c.args.place c.loop-i.i (omega (arith, c.loop-i.auto.i)) c.loop-i.invariant.0 lt x.0 x.1 c.take.new.self yes taken

pub returns-then-not-branch-clause-stays : goal.returns-then-not-branch-clause-stays
returns-then-not-branch-clause-stays g c = g.met.T.Taker.stays_then c.args.taker.now c.loop-i.taker c.take.new.self c.loop-i.invariant.1 c.take.ensures.stays

pub loop-i-preserved : goal.loop-i-preserved
loop-i-preserved g c =
    let lt : c.loop-i.i < length c.args.leaf.now.items = omega (arith, c.loop-i-test.true, c.len-i-end.ensures) in
    let x = some_at c.args.leaf.now.items c.loop-i.i lt in
    let yes : is_inside (g.C.Cut.side_of c.args.cut.now x.0.key) ≡ true = ap (λ (k : List ℕ). is_inside (g.C.Cut.side_of c.args.cut.now k)) (sym (c.key.ensures x.0 x.1)) ∙ (sym c.has.ensures ∙ c.if-not-has.false) in
    let taken = subst (λ (y : Item). g.T.Taker.takes c.loop-i.taker y c.take.new.self true) (c.lying.ensures x.0 x.1) (rw c.if-not-branch.false at c.in_ok-take.ensures.taken) in (
      from_more g.T.Taker.takes (g.C.Cut.side_of c.args.cut.now) c.args.leaf.now.items c.args.taker.now c.loop-i.taker c.args.place c.loop-i.i (omega (arith, c.loop-i.auto.i)) c.loop-i.invariant.0 lt x.0 x.1 c.take.new.self yes taken,
      g.met.T.Taker.stays_then c.args.taker.now c.loop-i.taker c.take.new.self c.loop-i.invariant.1 c.take.ensures.stays,
    )

pub returns-clause-shown : goal.returns-clause-shown
returns-clause-shown g c =
    from_all g.T.Taker.takes (g.C.Cut.side_of c.args.cut.now) c.args.leaf.now.items c.args.taker.now c.loop-i.taker c.args.place c.loop-i.i (omega (arith, c.loop-i.auto.i)) c.loop-i.invariant.0 (omega (arith, c.loop-i-test.false, c.len-i-end.ensures))

pub returns-clause-stays : goal.returns-clause-stays
returns-clause-stays g c = c.loop-i.invariant.1
