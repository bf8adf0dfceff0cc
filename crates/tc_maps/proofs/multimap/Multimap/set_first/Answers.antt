use Rattle.std.proofs.Common.{◌+◌, ◌∙◌}
use Rattle.tc_maps.proofs.Counted.{OneMore, first_has, first_totals}
use Rattle.tc_maps.proofs.multimap.Multimap.set_first.Goals as goal

more : (c : goal.In_ok-replaced) → OneMore c.self.inside.totals c.in-Some.most c.args.key c.args.value
more c = record { pairs = c.in-Some.ensures.pairs; bytes = c.in-Some.ensures.bytes ∙ (λ i. c.self.inside.totals.bytes + (c.len-key_len.ensures i + c.len.ensures i)) }

pub less-self-inside-requires-clause-bytes : goal.less-self-inside-requires-clause-bytes
less-self-inside-requires-clause-bytes c = rw c.len-key_len.ensures (first_has _ _ _ _ c.args.value _ c.self.invariant.totals (more c) c.in_ok-replaced.ensures.replaced)

pub invariant_of-self-2 : goal.invariant_of-self-2
invariant_of-self-2 c = record {
  sorted = c.put_front.ensures.sorted;
  totals = first_totals _ _ _ _ _ c.args.key c.args.value c.in_ok-replaced.replaced c.self.invariant.totals (record { pairs = c.in-Some.ensures.pairs; bytes = c.in-Some.ensures.bytes ∙ (λ i. c.self.inside.totals.bytes + (c.len-key_len.ensures i + c.len.ensures i)) }) c.in_ok-replaced.ensures.replaced (record { pairs = c.less-self-inside.ensures.pairs; bytes = rw c.len-key_len.ensures at c.less-self-inside.ensures.bytes }) c.in_ok-replaced.ensures.ok;
}
