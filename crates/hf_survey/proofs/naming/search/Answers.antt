use Rattle.std.proofs.Common.{rules, ◌<◌, ◌^◌, arith}
use Rattle.hf_survey.proofs.Halving.{under_more, over_more, not_found}
use Rattle.hf_survey.proofs.Lists.{get_low}
use Rattle.hf_survey.proofs.naming.search.Goals as goal

pub loop-low-init : goal.loop-low-init
loop-low-init c = record {
  order = omega arith;
  inside = omega (arith, c.len-high.ensures);
  under = λ rises i x at low. absurd (omega (arith, low));
  over = λ rises i x at high. absurd (let l = get_low c.args.facts.now i x at in omega (arith, l, high, c.len-high.ensures));
}

pub loop-low-preserved-then-at-place-2 : goal.loop-low-preserved-then-at-place-2
loop-low-preserved-then-at-place-2 c = record {
  order = omega arith;
  inside = c.loop-low.invariant.inside;
  under = λ rises i x is low. under_more c.args.facts.now c.args.place _ i c.at.result.now x rises c.at.ensures c.if-at-place-2.true is low;
  over = c.loop-low.invariant.over;
}

pub loop-low-preserved : goal.loop-low-preserved
loop-low-preserved c = record {
  order = omega arith;
  inside = omega (arith, c.loop-low.invariant.inside);
  under = c.loop-low.invariant.under;
  over = λ rises i x is high. over_more c.args.facts.now c.args.place _ i c.at.result.now x rises c.at.ensures (omega (arith, c.if-at-place.false, c.if-at-place-2.false)) is high;
}

pub returns-clause-none : goal.returns-clause-none
returns-clause-none c = λ rises w. not_found c.args.facts.now c.args.place c.loop-low.low c.loop-low.high c.loop-low-test.false (c.loop-low.invariant.under rises) (c.loop-low.invariant.over rises) w

pub returns-then-at-place-clause-low : goal.returns-then-at-place-clause-low
returns-then-at-place-clause-low c = let r : c.len-high.result < 2 ^ 64 = search rules in omega (arith, r, c.len-high.ensures, c.loop-low.invariant.inside, c.loop-low-test.true)
