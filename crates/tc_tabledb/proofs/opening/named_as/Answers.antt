use Rattle.tc_tabledb.specs.Holding.{names}
use Rattle.tc_tabledb.proofs.Opened.{names_new, names_old, names_other}
use Rattle.tc_tabledb.proofs.opening.named_as.Goals as goal

pub returns-in_default : goal.returns-in_default
returns-in_default g c = names_other c.args.order (names c.args.sides.now) c.args.code c.args.name.now c.in_default.ensures

pub returns-then-not-is_new : goal.returns-then-not-is_new
returns-then-not-is_new g c = names_old c.args.order (names c.args.sides.now) c.in-Some.kind c.args.code c.args.name.now c.in-Some.ensures (c.is_new.ensures.other c.if-not-is_new.true)

pub returns : goal.returns
returns g c = names_new c.args.order (names c.args.sides.now) c.in-Some.kind c.args.code c.args.name.now c.in_ok-name.name c.in-Some.ensures c.in_ok-name.ensures (c.is_new.ensures.new c.if-not-is_new.false)
