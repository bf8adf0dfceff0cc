use Rattle.std.proofs.Common.{◌∙◌, sym}
use Rattle.tc_tabledb.proofs.Places.{first_kind, none_kind, rest_kind}
use Rattle.tc_tabledb.proofs.indexing.+kind_at.Goals as goal

pub returns-in_default : goal.returns-in_default
returns-in_default g t c = none_kind c.args.name.now c.args.sides.now c.in_default.ensures.cases

pub returns-then-has_name : goal.returns-then-has_name
returns-then-has_name g t c = first_kind c.args.name.now c.args.sides.now c.in-Some.rest.now c.in-Some.first.now c.in-Some.ensures.cases.0 (sym c.has_name.ensures ∙ c.if-has_name.true)

pub returns : goal.returns
returns g t c = rest_kind c.args.name.now c.args.sides.now c.in-Some.rest.now c.in-Some.first.now c.in-Some.ensures.cases.0 c.kind_at.result (sym c.has_name.ensures ∙ c.if-has_name.false) c.kind_at.ensures
