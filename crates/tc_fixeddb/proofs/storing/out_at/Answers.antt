use Rattle.std.proofs.lemmas.Result.{IfOk-weaker}
use Rattle.tc_fixeddb.proofs.Stored.{out_takes}
use Rattle.tc_fixeddb.proofs.storing.out_at.Goals as goal

pub returns-clause-takes : goal.returns-clause-takes
returns-clause-takes g c = IfOk-weaker _ _ _ (λ done out. out_takes g.S.Space _ _ _ _ c.args.id done out c.out.ensures.shape) c.out.ensures.out
