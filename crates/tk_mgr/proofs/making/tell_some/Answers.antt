use Rattle.std.proofs.Common.{arith}
use Rattle.std.proofs.lemmas.Result.{IfOk-weaker, on_ok_weaker}
use Rattle.ty_base.specs.Holding.{leaves_on}
use Rattle.tk_mgr.proofs.Steps.{makes_as, makes_then, tells_then}
use Rattle.tk_mgr.proofs.making.tell_some.Goals as goal

pub returns-clause-text : goal.returns-clause-text
returns-clause-text g c = IfOk-weaker c.report.result _ _ (λ text tells. tells_then g.B.S.Space g.B.Storage.holds _ _ _ _ _ _ _ text c.in_ok-make_some.ensures.makes tells) c.report.ensures.text

pub returns-clause-makes : goal.returns-clause-makes
returns-clause-makes g c = on_ok_weaker c.report.result (λ makes. makes_as g.B.S.Space g.B.Storage.holds _ _ _ _ _ _ _ _ (omega arith) (makes_then g.B.S.Space g.B.Storage.holds _ 0 _ _ _ _ _ _ _ _ _ c.in_ok-make_some.ensures.makes makes)) c.report.ensures.makes

pub returns-clause-full : goal.returns-clause-full
returns-clause-full g c = λ is. absurd (c.report.ensures.not_full is)

pub returns-clause-leaves : goal.returns-clause-leaves
returns-clause-leaves g c = on_ok_weaker c.report.result (λ leaves. leaves_on g.B.S.Space g.B.Storage.own g.B.Storage.layout c.args.space.now c.make_some.new.space c.report.new.space c.in_ok-make_some.ensures.leaves leaves) c.report.ensures.leaves
