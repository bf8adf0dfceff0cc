use Rattle.std.proofs.Common.{◌≡◌, length}
use Rattle.std.specs.List.{starts_with}
use Rattle.tc_base.specs.Texts.{is_text}
use Rattle.tc_model.specs.Texts.{tokens}
use Rattle.td_query.proofs.tokens.leads.Given as goal

abbrev pub invariant-loop-token : goal.invariant-loop-token
invariant-loop-token l = starts_with is_text (tokens l.other) (tokens l.text) ≡ starts_with is_text (tokens l.rest) (tokens l.left)

abbrev pub decreases-loop-token : goal.decreases-loop-token
decreases-loop-token l = length l.left
