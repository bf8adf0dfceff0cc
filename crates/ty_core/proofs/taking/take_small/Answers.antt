use Rattle.std.proofs.lemmas.Result.{IfOk-weaker}
use Rattle.ty_core.proofs.Fronts.{moved}
use Rattle.ty_core.proofs.taking.take_small.Goals as goal

pub returns : goal.returns
returns c = IfOk-weaker c.read_small-taken.result _ _ (λ t k. moved t c.args.logs c.as_slice.result.now c.args.bytes.now.items _ c.args.whole c.as_slice.ensures c.pass.ensures k) c.read_small-taken.ensures
