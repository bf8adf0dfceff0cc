use Rattle.std.proofs.Common.{◌≡◌, length}
use Rattle.std.specs.List.{list_any}
use Rattle.tc_base.specs.Decimal.{text_number}
use Rattle.tc_model.specs.Texts.{tokens}
use Rattle.tc_model.specs.Operators.{same_number}
use Rattle.td_query.proofs.tokens.some_number.Given as goal

abbrev pub invariant-loop-token : goal.invariant-loop-token
invariant-loop-token l = list_any (λ t. same_number (text_number l.other) (text_number t)) (tokens l.text) ≡ list_any (λ t. same_number (text_number l.other) (text_number t)) (tokens l.rest)

abbrev pub decreases-loop-token : goal.decreases-loop-token
decreases-loop-token l = length l.rest
