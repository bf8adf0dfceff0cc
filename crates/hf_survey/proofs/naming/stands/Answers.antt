use Rattle.std.proofs.Common.{rules, ◌<◌, ◌^◌, arith}
use Rattle.hf_survey.proofs.naming.stands.Goals as goal

pub returns-clause-low : goal.returns-clause-low
returns-clause-low c = λ is. let r : c.len.result < 2 ^ 64 = search rules in omega (arith, r, c.len.ensures, c.if-i-len.false)
