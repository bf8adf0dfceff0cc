use Rattle.std.proofs.Common.{ℕ, sym, ap, ◌∙◌}
use Rattle.bt_slots.proofs.ReadBack.{small_three}
use Rattle.bt_slots.proofs.fronts.small_head.Goals as goal

pub returns-clause-key : goal.returns-clause-key
returns-clause-key c = c.from.ensures ∙ sym (small_three c.args.key c.args.first c.args.more _ _ c.requires.are c.requires.small.0 c.requires.small.1 c.requires.small.2).0

pub returns-clause-first : goal.returns-clause-first
returns-clause-first c = c.from-2.ensures ∙ sym (small_three c.args.key c.args.first c.args.more _ _ c.requires.are c.requires.small.0 c.requires.small.1 c.requires.small.2).1

pub returns-clause-more : goal.returns-clause-more
returns-clause-more c = ap (λ (n : ℕ). (n, c.args.rest.now)) c.from-3.ensures ∙ sym (small_three c.args.key c.args.first c.args.more _ _ c.requires.are c.requires.small.0 c.requires.small.1 c.requires.small.2).2
