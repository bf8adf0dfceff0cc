use Rattle.std.proofs.Common.{ap, length, arith}
use Rattle.std.specs.FinMap.{get}
use Rattle.tc_base.specs.Maps.{Map}
use Rattle.tc_maps.specs.Sizes.{map_seen, size_of}
use Rattle.tc_maps.proofs.Bytes.{size-remove, gone_same}
use Rattle.tc_maps.proofs.bytemap.Bytemap.remove.Goals as goal

pub less_entry-self-inside-requires : goal.less_entry-self-inside-requires
less_entry-self-inside-requires c =
    let m = map_seen c.self.inside.entries in
    let old = gone_same (length c.args.key.now) c.len.result (get m c.args.key.now) c.take-taken.result c.len.ensures c.take-taken.ensures.taken in
    omega (arith, old, size-remove m c.args.key.now, c.self.invariant.size)

pub invariant_of-self : goal.invariant_of-self
invariant_of-self c =
    let m = map_seen c.self.inside.entries in
    let old = gone_same (length c.args.key.now) c.len.result (get m c.args.key.now) c.take-taken.result c.len.ensures c.take-taken.ensures.taken in
    let same = ap (λ (x : Map). size_of x) c.take-taken.ensures.map in
    record {
      sorted = c.take-taken.ensures.sorted;
      size = omega (arith, same, old, size-remove m c.args.key.now, c.self.invariant.size, c.less_entry-self-inside.ensures);
    }
