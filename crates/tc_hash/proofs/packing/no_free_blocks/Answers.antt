use Rattle.std.proofs.Common.{◌≤◌, ◌^◌, arith, lit<}
use Rattle.hf_pool.specs.Pools.{frees}
use Rattle.std.proofs.Math.Nat.{pow-le-pow_right}
use Rattle.tc_hash.proofs.Created.{none_listed}
use Rattle.tc_hash.proofs.packing.no_free_blocks.Goals as goal

pub build-requires-clause-unit : goal.build-requires-clause-unit
build-requires-clause-unit c =
    let p : 2 ^ 4 ≤ 2 ^ c.args.head.now.apow = pow-le-pow_right (lit< tt) c.requires.powers.0 in
    omega (arith, p, c.unit-2.ensures)

pub returns-clause-nothing : goal.returns-clause-nothing
returns-clause-nothing c = none_listed (frees c.in_ok-build.field-0) c.new-blocks.result c.new-blocks.ensures c.in_ok-build.ensures.free
