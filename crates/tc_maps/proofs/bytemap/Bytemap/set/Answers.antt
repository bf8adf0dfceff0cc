use Rattle.std.proofs.Common.{ap, length, arith}
use Rattle.std.specs.FinMap.{get}
use Rattle.tc_base.specs.Maps.{Map}
use Rattle.tc_maps.specs.Sizes.{map_seen, size_of}
use Rattle.tc_maps.proofs.Bytes.{size-insert, gone_same}
use Rattle.tc_maps.proofs.bytemap.Bytemap.set.Goals as goal

pub less_entry-self-inside-requires : goal.less_entry-self-inside-requires
less_entry-self-inside-requires c =
    let m = map_seen c.self.inside.entries in
    let old = gone_same (length c.args.key) c.len-key_len.result (get m c.args.key) c.in_ok-replaced.replaced c.len-key_len.ensures c.in_ok-replaced.ensures.replaced in
    omega (arith, old, size-insert m c.args.key c.args.value, c.self.invariant.size, c.in-Some.ensures, c.len.ensures, c.len-key_len.ensures)

pub invariant_of-self-2 : goal.invariant_of-self-2
invariant_of-self-2 c =
    let m = map_seen c.self.inside.entries in
    let old = gone_same (length c.args.key) c.len-key_len.result (get m c.args.key) c.in_ok-replaced.replaced c.len-key_len.ensures c.in_ok-replaced.ensures.replaced in
    let same = ap (λ (x : Map). size_of x) c.in_ok-replaced.ensures.ok in
    record {
      sorted = c.put.ensures.sorted;
      size = omega (arith, same, old, size-insert m c.args.key c.args.value, c.self.invariant.size, c.in-Some.ensures, c.less_entry-self-inside.ensures, c.len.ensures, c.len-key_len.ensures);
    }
