use Rattle.std.proofs.lemmas.Result.{IfOk-weaker}
use Rattle.tc_tabledb.specs.Holding.{names}
use Rattle.tc_tabledb.proofs.Opened.{names_at, names_nil}
use Rattle.tc_tabledb.proofs.opening.named_by.Goals as goal

pub returns-in_default : goal.returns-in_default
returns-in_default g c = names_nil c.args.order (names c.args.sides.now) c.args.record.now c.in_default.ensures.cases

pub returns : goal.returns
returns g c = IfOk-weaker _ _ _ (λ o named. names_at c.args.order (names c.args.sides.now) c.args.record.now c.in-Some.name.now c.in-Some.code.now o c.in-Some.ensures.cases.0 named) c.named_as.ensures
