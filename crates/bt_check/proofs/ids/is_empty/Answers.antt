use Rattle.bt_check.proofs.Sets.{has_one, has_none}
use Rattle.bt_check.proofs.ids.is_empty.Goals as goal

pub returns-in-None-clause-none : goal.returns-in-None-clause-none
returns-in-None-clause-none c = λ _. has_none c.args.ids.now (λ lt. let v = c.in-None.ensures.variant in let bad = v.1 lt in cc)

pub returns-in-Some-clause-some : goal.returns-in-Some-clause-some
returns-in-Some-clause-some c = λ _. (_, has_one c.args.ids.now _ c.in-Some.ensures.member)
