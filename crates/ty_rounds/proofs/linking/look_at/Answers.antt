use Rattle.std.proofs.Common.{arith, rules}
use Rattle.std.proofs.lemmas.Result.{IfOk-weaker}
use Rattle.ty_rounds.proofs.Looking.{looks_one, looks_two}
use Rattle.ty_rounds.proofs.linking.look_at.Goals as goal

pub returns-then-is_named-clause-ok : goal.returns-then-is_named-clause-ok
returns-then-is_named-clause-ok c = IfOk-weaker _ _ _ (λ t last. looks_two c.args.link.now c.step.new.self c.step-then-is_named.new.self c.in_ok-step.step t c.in_ok-step.ensures.ok (search rules) last) c.step-then-is_named.ensures.ok

pub returns-clause-ok : goal.returns-clause-ok
returns-clause-ok c = looks_one c.args.link.now c.step.new.self c.in_ok-step.step c.in_ok-step.ensures.ok (search rules)

pub returns-then-is_named-clause-fewer : goal.returns-then-is_named-clause-fewer
returns-then-is_named-clause-fewer c = omega (arith, c.step.ensures.fewer, c.step-then-is_named.ensures.fewer)

pub returns-clause-fewer : goal.returns-clause-fewer
returns-clause-fewer c = c.step.ensures.fewer
