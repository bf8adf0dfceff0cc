use Rattle.std.proofs.Common.{◌∙◌, sym, ap, arith}
use Rattle.std.specs.Prelude.{IsSome}
use Rattle.std.specs.FinMap.{get}
use Rattle.tc_base.specs.Maps.{Map}
use Rattle.tc_maps.specs.Sizes.{map_seen, size_of}
use Rattle.tc_maps.proofs.Bytes.{size-joined}
use Rattle.tc_maps.proofs.bytemap.Bytemap.append.Goals as goal

pub invariant_of-self-then-held : goal.invariant_of-self-then-held
invariant_of-self-then-held c =
    let some : IsSome (get (map_seen c.self.inside.entries) c.args.key.now) = sym c.in_ok-held.ensures.found ∙ c.if-held.true in
    let same = ap (λ (x : Map). size_of x) (c.in_ok-held.ensures.held c.if-held.true) in
    record {
      sorted = c.join.ensures.sorted;
      size = omega (arith, same, size-joined (map_seen c.self.inside.entries) c.args.key.now c.args.more.now some, c.self.invariant.size, c.in-Some.ensures);
    }
