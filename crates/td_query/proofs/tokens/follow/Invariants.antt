use Rattle.std.proofs.Common.{◌≡◌, length}
use Rattle.tc_model.specs.Operators.{follow}
use Rattle.tc_model.specs.Texts.{tokens}
use Rattle.td_query.proofs.tokens.follow.Given as goal

abbrev pub invariant-loop-more : goal.invariant-loop-more
invariant-loop-more l = follow (tokens l.other) (tokens l.text) ≡ follow (tokens l.rest) (tokens l.text)

abbrev pub decreases-loop-more : goal.decreases-loop-more
decreases-loop-more l = length l.rest
