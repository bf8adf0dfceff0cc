use Rattle.std.proofs.Common.{◌∙◌, sym}
use Rattle.tc_plain.proofs.Taking.{no_step, long_step, ok_more}
use Rattle.tc_plain.proofs.apply.step.Goals as goal

pub returns-in_default-clause-ok : goal.returns-in_default-clause-ok
returns-in_default-clause-ok c =
    ok_more c.refuse.result (λ a h. no_step c.args.c.now c.args.walk.now a _ _ (rw c.in_default.is at c.in_ok-n.ensures) (h c.args.c.now c.args.walk.now)) c.refuse.ensures.ok

pub returns-then-not-fits-clause-ok : goal.returns-then-not-fits-clause-ok
returns-then-not-fits-clause-ok c =
    ok_more c.refuse-then-not-fits.result (λ a h. long_step c.args.c.now c.args.walk.now _ _ a _ _ (rw c.in-Some.is at c.in_ok-n.ensures) (sym c.fits.ensures ∙ c.if-not-fits.true) (h c.args.c.now c.args.walk.now)) c.refuse-then-not-fits.ensures.ok
