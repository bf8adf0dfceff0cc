use Rattle.std.proofs.Common.{subst, false}
use Rattle.tc_model.specs.Contents.{Walk}
use Rattle.tc_model.specs.Apply.{apply}
use Rattle.tk_mgr.proofs.Ends.{full_at}
use Rattle.tk_mgr.proofs.asking.ask.Goals as goal

pub returns-in_err-apply-clause-full : goal.returns-in_err-apply-clause-full
returns-in_err-apply-clause-full g c = λ is. let full = c.in_err-apply.ensures.full (full_at c.from_residual.result c.in_err-apply.field-0.0 c.from_residual.ensures.1 is) in record {
  writes = full.writes;
  packs = full.packs;
  by = λ d h. subst (λ (w : Walk). g.B.Storage.fills c.args.base.now c.args.space.now c.apply.new.space d (apply false c.args.request d w).contents) c.new-walk.ensures (full.by d h);
}
