use Rattle.std.proofs.Common.{◌++◌, ℕ, List, map, subst}
use Rattle.tc_base.specs.Lists.{pair}
use Rattle.tc_memdb.specs.Walked.{Walked, pair_items}
use Rattle.tc_memdb.proofs.Along.{follows_step, take_all}
use Rattle.tc_memdb.proofs.reading.add_values.Goals as goal

pub loop-value-preserved : goal.loop-value-preserved
loop-value-preserved c =
    follows_step c.args.key.now c.args.values.now c.loop-value.value-index c.value-item.result _ _ _ _ _ _ c.loop-value-test.true c.value-item.is c.loop-value.invariant (record { walked = c.in_ok-left.ensures.walked; front = c.add_value.ensures.front })

pub returns-clause-walked : goal.returns-clause-walked
returns-clause-walked c = λ most from ps w.
    subst (λ (vs : List (List ℕ)). Walked pair_items most from (ps ++ map (pair c.args.key.now) vs) c.loop-value.left c.loop-value.rows) (take_all c.loop-value.value-index c.args.values.now c.loop-value-test.false) (c.loop-value.invariant.walked most from ps w)
