use Rattle.tc_maps.specs.Entries.{all_of}
use Rattle.tc_maps.proofs.Counting.{Counts}
use Rattle.tc_maps.proofs.totals.Totals.less_all.Given as goal

abbrev pub invariant-loop-place : goal.invariant-loop-place
invariant-loop-place l = Counts (all_of l.values) l.place l.key l.fn.self.pairs l.left.pairs l.fn.self.bytes l.left.bytes
