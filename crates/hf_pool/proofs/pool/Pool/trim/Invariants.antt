use Rattle.std.proofs.Common.{◌≡◌, ℕ, ◌<◌, ◌≤◌, None}
use Rattle.std.specs.BTreeMap as tree
use Rattle.std.specs.Ordering.{nat_cmp}
use Rattle.hf_pool.specs.Pools.{Notes}
use Rattle.hf_pool.specs.Trims.{Row}
use Rattle.hf_pool.proofs.pool.Pool.trim.Given as goal

abbrev pub invariant-loop-place : goal.invariant-loop-place
invariant-loop-place l = record {
  lower : l.self.size ≤ l.initial.self.size;
  kept : (q : ℕ) → q < l.self.size → tree.get nat_cmp l.self.index.by_place q ≡ tree.get nat_cmp l.initial.self.index.by_place q;
  gone : (q : ℕ) → l.self.size ≤ q → tree.get nat_cmp l.self.index.by_place q ≡ None;
  notes : Notes l.initial.self l.self;
  exact : l.self.size ≡ l.initial.self.size → l.self.changed ≡ l.initial.self.changed;
  row : Row (λ q. tree.get nat_cmp l.initial.self.index.by_place q) l.self.size l.initial.self.size;
}

abbrev pub decreases-loop-place : goal.decreases-loop-place
decreases-loop-place l = l.self.size
