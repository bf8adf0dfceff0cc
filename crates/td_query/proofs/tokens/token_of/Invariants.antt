use Rattle.std.proofs.Common.{◌≡◌, drop}
use Rattle.tc_model.specs.Texts.{tokens}
use Rattle.td_query.proofs.tokens.token_of.Given as goal

abbrev pub invariant-loop-i : goal.invariant-loop-i
invariant-loop-i l = tokens l.text ≡ tokens (drop l.i l.text)
