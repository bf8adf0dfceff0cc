use Rattle.std.proofs.Common.{◌∙◌, inl, inr, sym}
use Rattle.hf_tree.specs.Rules.{rule_l}
use Rattle.hf_survey.proofs.Judged.{same_rule}
use Rattle.hf_survey.proofs.checking.conclude.Goals as goal

pub returns-in-Stray-clause-broken : goal.returns-in-Stray-clause-broken
returns-in-Stray-clause-broken c = λ rule is. inl (c.in-Stray.is, sym (same_rule (rule_l 6) rule is))

pub returns-in-Mixed-clause-broken : goal.returns-in-Mixed-clause-broken
returns-in-Mixed-clause-broken c = λ rule is. inr (inl (c.in-Mixed.is, sym (same_rule (rule_l 7) rule is)))

pub returns-then-len-head-clause-broken : goal.returns-then-len-head-clause-broken
returns-then-len-head-clause-broken c = λ rule is. inr (inr (c.in-InOrder.is, λ e. c.if-len-head.true (c.len.ensures ∙ e), sym (same_rule (rule_l 8) rule is)))
