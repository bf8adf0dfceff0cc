use Rattle.hf_pool.proofs.Sectioning.{Pairing}
use Rattle.hf_pool.proofs.pool.Pool.put_pairs.Given as goal

abbrev pub invariant-loop-place : goal.invariant-loop-place
invariant-loop-place l = Pairing l.self.unit l.before l.room l.len l.place-iterator l.self.index.by_place.entries l.initial.into l.into
