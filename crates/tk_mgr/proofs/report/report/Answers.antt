use Rattle.std.proofs.Common.{rules, refl, subst, Bool}
use Rattle.tc_base.specs.declared.request.Request.TheVariants.{Stat}
use Rattle.tk_mgr.specs.Asking.{IsTold}
use Rattle.tk_mgr.proofs.Ends.{looks_leaves}
use Rattle.tk_mgr.proofs.Reported.{report_makes, report_tells}
use Rattle.tk_mgr.proofs.report.report.Goals as goal

pub returns-clause-text : goal.returns-clause-text
returns-clause-text g c = report_tells g.B.S.Space g.B.Storage.holds c.kind-kind.result c.args.run.now c.args.base.now _ c.look.new.reply _ c.kind-kind.ensures
    (λ d h. subst (λ (b : Bool). IsTold Stat b d c.look.new.reply) (search rules) (c.in_ok-ok.ensures.told d h))
    (λ d few is told. c.in_ok-summary_text.ensures d few is (search rules))

pub returns-clause-makes : goal.returns-clause-makes
returns-clause-makes g c = report_makes g.B.S.Space g.B.Storage.holds c.args.run.now _ _ _ _ _ refl refl refl c.requires.ready c.in_ok-ok.ensures.looks

pub returns-clause-leaves : goal.returns-clause-leaves
returns-clause-leaves g c = looks_leaves g.B.S.Space g.B.Storage.holds g.B.Storage.own g.B.Storage.layout _ _ _ _ c.in_ok-ok.ensures.looks
