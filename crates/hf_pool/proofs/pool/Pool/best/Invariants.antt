use Rattle.std.proofs.Common.{◌≤◌, ◌-◌, ◌^◌}
use Rattle.hf_pool.specs.Pools.{frees}
use Rattle.hf_pool.proofs.Indexing.{BeginBehind}
use Rattle.hf_pool.proofs.pool.Pool.best.Given as goal

abbrev pub invariant-loop-place : goal.invariant-loop-place
invariant-loop-place l = record {
  low : l.size ≤ l.from;
  passed : BeginBehind (frees l.self) l.most l.size l.from;
}

abbrev pub decreases-loop-place : goal.decreases-loop-place
decreases-loop-place l = 2 ^ 64 - l.from
