use Rattle.std.proofs.Common.{rules, arith, ◌≡◌, ◌++◌, ◌∷◌, []}
use Rattle.tc_base.specs.Lists.{pair}
use Rattle.bt_tree.proofs.Cuts.{filled_one}
use Rattle.bt_tree.proofs.stretching.add_item.Goals as goal

pub returns : goal.returns
returns c = λ x is.
    let grown : c.push.new.self ≡ c.args.pairs.now ++ pair c.key.result.now c.first_value.result.now ∷ [] = search rules in
    rw grown (filled_one c.args.max x c.args.pairs.now c.key.result.now c.first_value.result.now (c.key.ensures x is) (c.first_value.ensures x is) (omega (arith, c.if-count-gt1.false, c.count.ensures x is)) (omega (arith, c.if-len-max.false, c.len.ensures)))
