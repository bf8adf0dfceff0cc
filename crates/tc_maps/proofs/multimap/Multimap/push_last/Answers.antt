use Rattle.std.proofs.Common.{◌+◌, ◌∙◌}
use Rattle.tc_maps.proofs.Counted.{last_totals}
use Rattle.tc_maps.proofs.multimap.Multimap.push_last.Goals as goal

pub invariant_of-self-2 : goal.invariant_of-self-2
invariant_of-self-2 c = record {
  sorted = c.put_back.ensures.sorted;
  totals = last_totals _ _ _ _ c.args.key c.args.value c.self.invariant.totals (record { pairs = c.in-Some.ensures.pairs; bytes = c.in-Some.ensures.bytes ∙ (λ i. c.self.inside.totals.bytes + (c.len.ensures i + c.len-2.ensures i)) }) c.in_ok-put_back.ensures.ok;
}
