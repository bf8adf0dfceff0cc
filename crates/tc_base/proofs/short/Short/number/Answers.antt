use Rattle.std.proofs.Common.{◌∙◌}
use Rattle.tc_base.proofs.Foreseeing.{front_padded}
use Rattle.tc_base.proofs.short.Short.number.Goals as goal

pub returns : goal.returns
returns c = c.number_at.ensures.value ∙ front_padded _ _ _ _ c.self.view_is c.self.invariant.1
