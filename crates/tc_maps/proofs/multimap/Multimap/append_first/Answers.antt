use Rattle.std.proofs.Common.{◌∙◌, sym, refl, arith}
use Rattle.tc_maps.proofs.Counted.{joined_totals}
use Rattle.tc_maps.proofs.multimap.Multimap.append_first.Goals as goal

pub invariant_of-self-then-held : goal.invariant_of-self-then-held
invariant_of-self-then-held c = record {
  sorted = c.join_front.ensures.sorted;
  totals = joined_totals _ _ _ _ c.args.key.now c.args.more.now c.self.invariant.totals (sym c.in_ok-held.ensures.found ∙ c.if-held.true) refl (omega (arith, c.in-Some.ensures)) (c.in_ok-held.ensures.held c.if-held.true);
}
