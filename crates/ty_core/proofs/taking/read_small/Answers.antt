use Rattle.std.proofs.Common.{Bool, drop, subst, sym}
use Rattle.std.proofs.lemmas.Result.{IfOk-weaker}
use Rattle.ty_core.specs.Serving.{IsTaken}
use Rattle.ty_core.proofs.Fronts.{is_ok_whole}
use Rattle.ty_core.proofs.taking.read_small.Goals as goal

pub read_alone-requires-clause-whole : goal.read_alone-requires-clause-whole
read_alone-requires-clause-whole c = is_ok_whole c.args.whole c.args.unread.now c.requires

pub returns : goal.returns
returns c = IfOk-weaker c.read_alone.result _ _ (λ t k. subst (λ (b : Bool). IsTaken t b c.args.unread.now (drop c.args.whole c.args.unread.now)) (sym c.if-logs.false) (k c.args.whole c.requires)) c.read_alone.ensures
