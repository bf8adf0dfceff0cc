use Rattle.std.proofs.Common.{◌≡◌, ◌∙◌, refl, sym, ap, None}
use Rattle.std.specs.Prelude.{Some, option_map}
use Rattle.tc_model.specs.Apply.{effect}
use Rattle.tc_plain.specs.Views.{contents_of, effect_seen}
use Rattle.tc_plain.proofs.Taking.{fails, too_long, ok_more}
use Rattle.tc_plain.proofs.apply.take_effect.Goals as goal

pub returns-in_default-clause-ok : goal.returns-in_default-clause-ok
returns-in_default-clause-ok c =
    let none : None ≡ effect c.args.r.now c.args.c.now =
    sym (ap (λ o. option_map effect_seen o) c.in_default.is) ∙ c.in_ok-e.ensures ∙ ap (λ d. effect c.args.r.now (contents_of d)) c.in_ok-before.ensures ∙ ap (λ x. effect c.args.r.now x) c.c.view_is in
    ok_more c.refuse.result (λ a h w. fails c.args.r.now (effect c.args.r.now c.args.c.now) c.args.c.now c.args.c.now w a c.args.reply.now c.refuse.new.reply none refl (h c.args.c.now w)) c.refuse.ensures.ok

pub returns-then-not-fits-clause-ok : goal.returns-then-not-fits-clause-ok
returns-then-not-fits-clause-ok c =
    let some : Some (contents_of c.in-Some.e.after, c.in-Some.e.answer) ≡ effect c.args.r.now c.args.c.now =
    sym (ap (λ o. option_map effect_seen o) c.in-Some.is) ∙ c.in_ok-e.ensures ∙ ap (λ d. effect c.args.r.now (contents_of d)) c.in_ok-before.ensures ∙ ap (λ x. effect c.args.r.now x) c.c.view_is in
    ok_more c.refuse-then-not-fits.result
    (λ a h w. too_long c.args.r.now (effect c.args.r.now c.args.c.now) (contents_of c.in-Some.e.after) c.in-Some.e.answer c.args.c.now c.args.c.now w a c.args.reply.now c.refuse-then-not-fits.new.reply some (sym c.fits.ensures ∙ c.if-not-fits.true) refl (h c.args.c.now w)) c.refuse-then-not-fits.ensures.ok
