use Rattle.std.proofs.Common.{ℕ}
use Rattle.std.specs.BTreeMap as tree
use Rattle.std.specs.Ordering.{nat_cmp}
use Rattle.hf_pool.proofs.Building.{Built}
use Rattle.hf_pool.proofs.pool.Pool.build.Given as goal

abbrev pub invariant-loop-block : goal.invariant-loop-block
invariant-loop-block l = Built l.unit l.size l.block-index l.block-items (λ (q : ℕ). tree.get nat_cmp l.index.by_place q)
