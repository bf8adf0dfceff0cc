use Rattle.tc_maps.proofs.Counted.{out_has, out_totals}
use Rattle.tc_maps.proofs.multimap.Multimap.take_first.Goals as goal

pub less-self-inside-requires-clause-bytes : goal.less-self-inside-requires-clause-bytes
less-self-inside-requires-clause-bytes c = rw c.len.ensures (out_has _ _ c.args.key.now _ c.self.invariant.totals c.take_front-taken.ensures.taken).1

pub invariant_of-self : goal.invariant_of-self
invariant_of-self c = record {
  sorted = c.take_front-taken.ensures.sorted;
  totals = out_totals _ _ _ _ c.args.key.now c.take_front-taken.result c.self.invariant.totals c.take_front-taken.ensures.taken (record { pairs = c.less-self-inside.ensures.pairs; bytes = rw c.len.ensures at c.less-self-inside.ensures.bytes }) c.take_front-taken.ensures.out;
}
