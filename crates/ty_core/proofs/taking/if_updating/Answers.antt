use Rattle.std.proofs.Common.{Bool, sym, ap, ◌∙◌}
use Rattle.std.specs.Prelude.{◌&&◌}
use Rattle.tc_model.specs.Apply.{updates}
use Rattle.ty_wire.proofs.UpdateTest.{updates_is}
use Rattle.ty_core.proofs.taking.if_updating.Goals as goal

pub returns-then-test : goal.returns-then-test
returns-then-test c = updates_is c.is_updating.result c.args.request.now c.is_updating.ensures.0 c.is_updating.ensures.1 ∙ ap (λ (b : Bool). b && updates c.args.request.now) (sym c.if-test.true)
