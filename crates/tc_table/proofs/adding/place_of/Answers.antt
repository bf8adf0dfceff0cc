use Rattle.std.proofs.Common.{◌≡◌, ◌∙◌, ◌<◌, false, length, sym, arith}
use Rattle.td_plan.proofs.Firsts.{one_more}
use Rattle.tc_table.specs.Adding.{is_of}
use Rattle.tc_table.proofs.Added.{placed}
use Rattle.tc_table.proofs.adding.place_of.Goals as goal

pub loop-i-preserved : goal.loop-i-preserved
loop-i-preserved g c =
    let less : c.loop-i.i < length c.args.sides.now = omega arith in
    one_more (λ x. is_of c.args.name.now x ≡ false) c.args.sides.now c.loop-i.i c.index-sides-i.result (placed c.args.sides.now c.loop-i.i c.index-sides-i.result less c.index-sides-i.is) (sym c.is_of.ensures ∙ c.if-is_of.false) c.loop-i.invariant

pub returns-then-is_of : goal.returns-then-is_of
returns-then-is_of g c =
    let less : c.loop-i.i < length c.args.sides.now = omega arith in
    record { here = (c.index-sides-i.result, placed c.args.sides.now c.loop-i.i c.index-sides-i.result less c.index-sides-i.is, sym c.is_of.ensures ∙ c.if-is_of.true); before = c.loop-i.invariant }

pub returns : goal.returns
returns g c = λ i x less is. c.loop-i.invariant i x (omega (arith, less, c.loop-i-test.false)) is
