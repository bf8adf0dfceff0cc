use Rattle.hf_survey.proofs.Named.{names_at}
use Rattle.hf_survey.proofs.naming.has_named.Goals as goal

pub returns-in-Some-resolve_alone-clause-yes : goal.returns-in-Some-resolve_alone-clause-yes
returns-in-Some-resolve_alone-clause-yes c = λ is. (names_at c.args.facts.now c.in-Some.field-0 c.args.fact.now.left c.in-Some.ensures.some.0 c.in-Some.ensures.some.1, names_at c.args.facts.now c.in-Some-resolve_alone.field-0 c.args.fact.now.right c.in-Some-resolve_alone.ensures.some.0 c.in-Some-resolve_alone.ensures.some.1)
