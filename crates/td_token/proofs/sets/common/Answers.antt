use Rattle.std.proofs.Common.{◌∙◌}
use Rattle.td_token.proofs.Coming.{among_distinct}
use Rattle.td_token.proofs.sets.common.Goals as goal

pub returns : goal.returns
returns c = c.in_ok-found.ensures ∙ among_distinct c.in_ok-set.set c.args.others.now c.in_ok-set.ensures c.args.texts
