use Rattle.std.proofs.Common.{◌∙◌, inl, inr, sym, ap, arith, refl}
use Rattle.hf_survey.specs.Facts.{spot}
use Rattle.hf_survey.proofs.Batches.{pushed_behind, stay_refl}
use Rattle.hf_survey.proofs.Lists.{if_ok}
use Rattle.hf_survey.proofs.reaching.follow.Goals as goal

pub returns-in_default-clause-marked : goal.returns-in_default-clause-marked
returns-in_default-clause-marked c = stay_refl c.args.items.now c.args.marks.now

pub returns-then-number-eq0-clause-marked : goal.returns-then-number-eq0-clause-marked
returns-then-number-eq0-clause-marked c = stay_refl c.args.items.now c.args.marks.now

pub returns-in_default-clause-stops : goal.returns-in_default-clause-stops
returns-in_default-clause-stops c = λ is. record { is = λ before m. inl c.in_default.ensures.none }

pub returns-then-number-eq0-clause-follows : goal.returns-then-number-eq0-clause-follows
returns-then-number-eq0-clause-follows c = λ is. record { is = λ before m. inl (sym c.in-Some.ensures.some.1 ∙ ap (spot c.args.facts.now) c.if-number-eq0.true, refl) }

pub returns-clause-follows : goal.returns-clause-follows
returns-clause-follows c = if_ok c.add.result (λ new fresh is. let f = fresh is in record {
  is = λ before m. inr (c.in-Some.number, omega (arith, c.if-number-eq0.false), c.in-Some.ensures.some.0, c.in-Some.ensures.some.1, pushed_behind before c.args.items.now c.add.new.items _ f.0, f.1 before m);
}) c.add.ensures.fresh

pub returns-clause-stops : goal.returns-clause-stops
returns-clause-stops c = if_ok c.add.result (λ new twice is. record {
  is = λ before m. inr (c.in-Some.number, omega (arith, c.if-number-eq0.false), c.in-Some.ensures.some.0, c.in-Some.ensures.some.1, twice is before m);
}) c.add.ensures.twice
