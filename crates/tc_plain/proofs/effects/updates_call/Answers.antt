use Rattle.std.proofs.Common.{◌∙◌}
use Rattle.tc_model.specs.Misc.{updates_call}
use Rattle.ty_wire.proofs.UpdateTest.{updates_call_is}
use Rattle.tc_plain.proofs.effects.updates_call.Goals as goal

pub returns : goal.returns
returns c = updates_call_is c.is_updating_call.result _ _ c.is_updating_call.ensures.0 c.is_updating_call.ensures.1 ∙ (λ i. updates_call (c.as_slice.ensures i) (c.as_slice-2.ensures i))
