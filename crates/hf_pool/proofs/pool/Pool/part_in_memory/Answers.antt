use Rattle.std.proofs.Common.{arith}
use Rattle.hf_layout.proofs.Segments.{rest_aligned}
use Rattle.hf_pool.proofs.Aligned.{multiples_less, multiples_insert, within_less, within_insert}
use Rattle.hf_pool.proofs.Building.{sum_aligned}
use Rattle.hf_pool.proofs.pool.Pool.part_in_memory.Goals as goal

pub invariant_of-self-clause-multiples : goal.invariant_of-self-clause-multiples
invariant_of-self-clause-multiples c =
    let m = c.args.self.now.multiples c.args.place c.args.found c.requires.there in
    multiples_insert c.insert.result c.args.self.now.unit _ _ _ _ (multiples_less _ _ _ _ c.args.self.now.multiples c.remove.ensures) (sum_aligned c.args.self.now.unit c.args.place c.args.size m.0 c.requires.aligned) (rest_aligned c.args.self.now.unit c.args.size c.args.found c.if-found-size.true c.requires.aligned m.1) c.insert.ensures.ok c.insert.ensures.err

pub invariant_of-self-else-found-size-clause-multiples : goal.invariant_of-self-else-found-size-clause-multiples
invariant_of-self-else-found-size-clause-multiples c = multiples_less _ _ _ _ c.args.self.now.multiples c.remove.ensures

pub invariant_of-self-clause-within : goal.invariant_of-self-clause-within
invariant_of-self-clause-within c =
    let w = c.args.self.now.within c.args.place c.args.found c.requires.there in
    within_insert c.insert.result c.args.self.now.size _ _ _ _ (within_less _ _ _ _ c.args.self.now.within c.remove.ensures) (omega (arith, c.if-found-size.true)) (omega (arith, w.1)) (omega (arith, w.2, c.if-found-size.true)) c.insert.ensures.ok c.insert.ensures.err

pub invariant_of-self-else-found-size-clause-within : goal.invariant_of-self-else-found-size-clause-within
invariant_of-self-else-found-size-clause-within c = within_less _ _ _ _ c.args.self.now.within c.remove.ensures
