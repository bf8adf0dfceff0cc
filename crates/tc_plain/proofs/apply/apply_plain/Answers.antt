use Rattle.std.proofs.Common.{◌∙◌, sym, subst}
use Rattle.tc_model.specs.Apply.{Step, apply}
use Rattle.tc_model.specs.Applying.{Applies}
use Rattle.tc_plain.proofs.Taking.{plain_is, ok_more}
use Rattle.tc_plain.proofs.apply.apply_plain.Goals as goal

pub returns-in-Plain-clause-ok : goal.returns-in-Plain-clause-ok
unfolding apply
returns-in-Plain-clause-ok c =
    ok_more c.take_effect.result (λ a h. subst (λ (s : Step). Applies s c.args.r.now a c.take_effect.new.c c.args.walk.now c.args.reply.now c.take_effect.new.reply)
    (plain_is c.args.r.now c.args.c.now c.args.walk.now (sym c.way_of.ensures ∙ c.in-Plain.is)) (h c.args.walk.now)) c.take_effect.ensures.ok
