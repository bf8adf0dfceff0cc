use Rattle.std.proofs.Common.{ℕ, ◌+◌, ap, arith, drop, ◌∙◌}
use Rattle.bt_slots.proofs.Numbers.{number_within, number_left}
use Rattle.bt_slots.proofs.fronts.behind_number.Goals as goal

pub overflow_add-count_tops : goal.overflow_add-count_tops
overflow_add-count_tops c = omega (arith, c.count_tops.ensures.count, c.count_tops.ensures.short, number_within c.requires.0 c.args.bytes.now c.requires.1 c.requires.2 c.requires.3)

pub rest_from-requires : goal.rest_from-requires
rest_from-requires c = omega (arith, c.count_tops.ensures.count, number_within c.requires.0 c.args.bytes.now c.requires.1 c.requires.2 c.requires.3)

pub returns : goal.returns
returns c = c.rest_from.ensures.is ∙ ap (λ (n : ℕ). drop (n + 1) c.args.bytes.now) c.count_tops.ensures.count ∙ number_left c.requires.0 c.args.bytes.now c.requires.1 c.requires.2 c.requires.3
