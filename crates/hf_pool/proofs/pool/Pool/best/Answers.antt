use Rattle.std.proofs.Common.{arith}
use Rattle.hf_pool.specs.Pools.{frees}
use Rattle.hf_pool.proofs.Indexing.{best_found, best_passed, best_passed_all}
use Rattle.hf_pool.proofs.pool.Pool.best.Goals as goal

pub loop-place-init : goal.loop-place-init
loop-place-init c = record { low = omega arith; passed = λ q t there enough few. absurd (omega (arith, enough, few)) }

pub loop-place-preserved : goal.loop-place-preserved
loop-place-preserved c = record {
  low = omega (arith, c.loop-place.invariant.low, c.in-Some.ensures.some.enough);
  passed = best_passed (frees c.args.self.now) c.args.most c.args.size c.loop-place.from c.in-Some.place c.in-Some.found c.loop-place.invariant.passed c.in-Some.ensures.some (omega (arith, c.if-place-most.false));
}

pub returns-then-place-most-clause-some : goal.returns-then-place-most-clause-some
returns-then-place-most-clause-some c = best_found (frees c.args.self.now) c.args.most c.args.size c.loop-place.from c.in-Some.place c.in-Some.found c.loop-place.invariant.low c.loop-place.invariant.passed c.in-Some.ensures.some c.if-place-most.true

pub returns-clause-none : goal.returns-clause-none
returns-clause-none c = best_passed_all (frees c.args.self.now) c.args.most c.args.size c.loop-place.from c.loop-place.invariant.passed c.in_default.ensures.none

pub overflow_add-from : goal.overflow_add-from
overflow_add-from c = let w = c.args.self.now.within c.in-Some.place c.in-Some.found c.in-Some.ensures.some.there in omega (arith, w.1)
