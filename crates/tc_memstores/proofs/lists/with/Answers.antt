use Rattle.std.proofs.Common.{◌∙◌, ◌++◌, append_assoc, map, true, false}
use Rattle.std.specs.Prelude.{filter}
use Rattle.tc_base.specs.Lists.{pair, below, above}
use Rattle.tc_memstores.specs.Sides.{is_wanted}
use Rattle.tc_memstores.proofs.lists.with.Goals as goal

pub returns : goal.returns
returns g c =
    let cmp = g.O.Order.cmp in
    let key = c.args.key.now in
    let pairs = c.args.pairs.now in
    let values = c.args.values.now in
    c.in_ok-add_beside-2.ensures
    ∙ (λ i. c.in_ok-add_values.ensures i ++ filter (λ p. is_wanted true (cmp p.key key)) (c.as_slice-3.ensures i))
    ∙ (λ i. (c.in_ok-add_beside.ensures i ++ map (pair key) (c.as_slice-2.ensures i)) ++ above cmp pairs key)
    ∙ (λ i. ((c.new-all.ensures i ++ filter (λ p. is_wanted false (cmp p.key key)) (c.as_slice.ensures i)) ++ map (pair key) values) ++ above cmp pairs key)
    ∙ append_assoc (below cmp pairs key) (map (pair key) values) (above cmp pairs key)
