use Rattle.std.proofs.Common.{ℕ, ◌^◌, ◌≤◌, refl, arith, lit<, subst, ◌%◌, ◌≡◌, sym}
use Rattle.std.proofs.Math.Nat.{pow-le-pow_right}
use Rattle.hf_block.specs.Rows.{StandApart}
use Rattle.hf_pool.proofs.Building.{row_apart}
use Rattle.bench_calls.proofs.blocks.pool.Goals as goal

pub walk-requires-clause-head : goal.walk-requires-clause-head
walk-requires-clause-head c = ((c.in-Ok.ensures.ok c.in-Ok.head).0 refl).0

pub unit-requires : goal.unit-requires
unit-requires c = ((c.in-Ok.ensures.ok c.in-Ok.head).0 refl).0.powers.1

pub build-requires-clause-unit : goal.build-requires-clause-unit
build-requires-clause-unit c =
    let p : 2 ^ 4 ≤ 2 ^ c.in-Ok.head.apow = pow-le-pow_right (lit< tt) ((c.in-Ok.ensures.ok c.in-Ok.head).0 refl).0.powers.0 in
    omega (arith, p, c.unit.ensures)

pub build-requires-clause-size : goal.build-requires-clause-size
build-requires-clause-size c = subst (λ (n : ℕ). c.in-Ok.head.size % n ≡ 0) (sym c.unit.ensures) ((c.in-Ok.ensures.ok c.in-Ok.head).0 refl).0.numbers.size_aligned

pub build-requires-clause-blocks : goal.build-requires-clause-blocks
build-requires-clause-blocks c =
    let n = ((c.in-Ok.ensures.ok c.in-Ok.head).0 refl).0.numbers in
    subst (λ (u : ℕ). StandApart u c.in-Ok.head.first c.in-Ok.head.size c.in_ok-blocks.blocks) (sym c.unit.ensures)
    (row_apart (2 ^ c.in-Ok.head.apow) c.in-Ok.head.first c.in-Ok.head.size c.in_ok-blocks.blocks c.in_ok-blocks.ensures.row n.first_aligned)
