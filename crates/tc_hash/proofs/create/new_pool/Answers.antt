use Rattle.std.proofs.Common.{◌≡◌, ◌≤◌, ◌%◌, ◌^◌, ℕ, List, sym, subst, arith, IfOk, lit<}
use Rattle.hf_block.specs.Rows.{StandApart}
use Rattle.hf_block.specs.declared.block.BlockAt.{BlockAt}
use Rattle.hf_pool.specs.Pools.{frees}
use Rattle.hf_pool.specs.declared.pool.Pool.{Pool}
use Rattle.std.proofs.Math.Nat.{pow-le-pow_right}
use Rattle.tc_hash.proofs.Created.{laid_empty, none_listed}
use Rattle.tc_hash.proofs.Stored.{from_ok}
use Rattle.tc_hash.proofs.create.new_pool.Goals as goal

pub build-requires-clause-unit : goal.build-requires-clause-unit
build-requires-clause-unit c =
    let p : 2 ^ 4 ≤ 2 ^ c.args.head.now.apow = pow-le-pow_right (lit< tt) c.requires.valid.powers.0 in
    omega (arith, p, c.unit.ensures)

pub build-requires-clause-size : goal.build-requires-clause-size
build-requires-clause-size c = subst (λ (u : ℕ). c.args.head.now.size % u ≡ 0) (sym c.unit.ensures) c.requires.valid.numbers.size_aligned

pub build-requires-clause-blocks : goal.build-requires-clause-blocks
build-requires-clause-blocks c = subst (λ (b : List BlockAt). StandApart c.unit.result c.args.head.now.first c.args.head.now.size b) (sym c.new-blocks.ensures) c.requires.valid.numbers.size_least

pub returns-clause-unit : goal.returns-clause-unit
returns-clause-unit c = subst (λ (n : ℕ). IfOk c.build.result (λ (p : Pool). p.unit ≡ n)) c.unit.ensures c.build.ensures.unit

pub returns-clause-none : goal.returns-clause-none
returns-clause-none c = from_ok _ c.build.ensures.free (λ p free. none_listed (frees p) c.new-blocks.result c.new-blocks.ensures free)

pub returns-clause-laid : goal.returns-clause-laid
returns-clause-laid c = from_ok _ c.build.ensures.laid (λ p laid. laid_empty c.args.head.now c.unit.result c.new-blocks.result p c.unit.ensures c.new-blocks.ensures c.requires.size laid)
