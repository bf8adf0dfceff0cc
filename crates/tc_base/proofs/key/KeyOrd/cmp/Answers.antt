use Rattle.tc_base.proofs.Foreseeing.{foreseen_is}
use Rattle.tc_base.proofs.key.KeyOrd.cmp.Goals as goal

pub returns-in_default : goal.returns-in_default
returns-in_default c = foreseen_is _ c.args.self.now c.args.other.now c.order.ensures c.in_default.not-Equal
