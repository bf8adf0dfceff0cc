use Rattle.std.proofs.Common.{◌∙◌, sym}
use Rattle.tc_base.specs.Lists.{pair}
use Rattle.td_row.proofs.Lacking.{lacking_there, lacking_new}
use Rattle.td_row.proofs.row.Row.put_lacking.Goals as goal

pub returns-then-has : goal.returns-then-has
returns-then-has c = lacking_there c.args.self.now (pair c.args.name.now c.args.value.now) (sym c.has.ensures ∙ c.if-has.true)

pub returns : goal.returns
returns c = lacking_new c.args.self.now c.put.new.self (pair c.args.name.now c.args.value.now) (sym c.has.ensures ∙ c.if-has.false) c.in_ok-put.ensures.set
