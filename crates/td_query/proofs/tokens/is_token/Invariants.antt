use Rattle.std.proofs.Common.{◌≡◌, length}
use Rattle.tc_model.specs.Texts.{is_among, tokens}
use Rattle.td_query.proofs.tokens.is_token.Given as goal

abbrev pub invariant-loop-token : goal.invariant-loop-token
invariant-loop-token l = is_among l.text (tokens l.among) ≡ is_among l.text (tokens l.rest)

abbrev pub decreases-loop-token : goal.decreases-loop-token
decreases-loop-token l = length l.rest
