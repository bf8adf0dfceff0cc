use Rattle.std.proofs.Common.{◌∙◌, sym}
use Rattle.tc_tabledb.proofs.Places.{first_seen, none_seen, rest_seen}
use Rattle.tc_tabledb.proofs.opening.+is_seen.Goals as goal

pub returns-in_default : goal.returns-in_default
returns-in_default g t c = none_seen c.args.name.now c.args.sides.now c.in_default.ensures.cases

pub returns-then-has_name : goal.returns-then-has_name
returns-then-has_name g t c = first_seen c.args.name.now c.args.sides.now c.in-Some.rest.now c.in-Some.first.now c.in-Some.ensures.cases.0 (sym c.has_name.ensures ∙ c.if-has_name.true)

pub returns : goal.returns
returns g t c = rest_seen c.args.name.now c.args.sides.now c.in-Some.rest.now c.in-Some.first.now c.in-Some.ensures.cases.0 c.is_seen.result (sym c.has_name.ensures ∙ c.if-has_name.false) c.is_seen.ensures
