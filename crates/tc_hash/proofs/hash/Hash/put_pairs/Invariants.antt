use Rattle.std.proofs.Common.{◌≡◌, ℕ, ◌+◌, take, None}
use Rattle.tc_space.specs.Frames.{In, Keeps, Writes}
use Rattle.tc_space.specs.Stores.{Only}
use Rattle.hf_pool.specs.Pools.{frees}
use Rattle.tc_hash.specs.Keeping.{file_of, holds, KeepsHead, StaysOpen}
use Rattle.tc_hash.specs.Packing.{blocks_long, with_pairs}
use Rattle.tc_hash.proofs.hash.Hash.put_pairs.Given as goal

abbrev pub invariant-loop-i : goal.invariant-loop-i
invariant-loop-i g l = record {
  writes : Writes g.S.Space (Only (file_of l.fn.self)) (In g.S.Space file_of holds) (λ m. with_pairs m (take l.i l.pairs)) l.fn.self l.self l.fn.space l.space;
  nothing : (q : ℕ) → frees l.self.body.pool q ≡ None;
  ends : l.self.body.pool.size ≡ l.fn.self.body.pool.size + blocks_long l.fn.self.body.head (take l.i l.pairs);
  front : KeepsHead g.S.Space l.fn.self.body.file l.fn.space l.space;
  keeps : Keeps g.S.Space l.fn.space l.space;
  stays : StaysOpen l.fn.self l.self;
}
