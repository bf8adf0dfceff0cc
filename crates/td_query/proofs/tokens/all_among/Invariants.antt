use Rattle.std.proofs.Common.{◌≡◌, length}
use Rattle.std.specs.List.{list_all}
use Rattle.tc_model.specs.Texts.{is_among, tokens}
use Rattle.td_query.proofs.tokens.all_among.Given as goal

abbrev pub invariant-loop-token : goal.invariant-loop-token
invariant-loop-token l = list_all (λ t. is_among t (tokens l.among)) (tokens l.text) ≡ list_all (λ t. is_among t (tokens l.among)) (tokens l.rest)

abbrev pub decreases-loop-token : goal.decreases-loop-token
decreases-loop-token l = length l.rest
