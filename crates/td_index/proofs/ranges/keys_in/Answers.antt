use Rattle.td_index.proofs.Seconds.{all_candidates}
use Rattle.td_index.proofs.ranges.keys_in.Goals as goal

pub returns-clause-value : goal.returns-clause-value
returns-clause-value g c = λ ps held.
    all_candidates (g.C.Cut.side_of c.args.cut.now) ps c.in_ok-pairs.pairs c.in_ok-keys.keys c.count-count.result (c.count-count.ensures _ ps held.1) (c.in_ok-pairs.ensures.value ps held) c.in_ok-keys.ensures
