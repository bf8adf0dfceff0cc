use Rattle.hf_pool.proofs.Aligned.{multiples_less, within_less}
use Rattle.hf_pool.proofs.pool.Pool.join_back.Goals as goal

pub invariant_of-self-clause-multiples : goal.invariant_of-self-clause-multiples
invariant_of-self-clause-multiples c = multiples_less _ _ _ _ c.args.self.now.multiples c.remove.ensures

pub invariant_of-self-clause-within : goal.invariant_of-self-clause-within
invariant_of-self-clause-within c = within_less _ _ _ _ c.args.self.now.within c.remove.ensures
