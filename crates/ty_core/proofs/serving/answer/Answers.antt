use Rattle.std.proofs.Common.{refl, sym, ◌∙◌, subst}
use Rattle.std.specs.Prelude.{[]}
use Rattle.std.proofs.lemmas.List.{append-nil}
use Rattle.std.proofs.lemmas.Result.{IfOk-weaker}
use Rattle.tc_model.specs.Apply.{Step}
use Rattle.tc_model.proofs.Updating.{apply_same}
use Rattle.ty_base.specs.Holding.{leaves_nothing}
use Rattle.ty_core.proofs.Fronts.{never_packs, refused_applies, served_alike}
use Rattle.ty_core.proofs.serving.answer.Goals as goal

pub returns-then-if_updating-clause-applied : goal.returns-then-if_updating-clause-applied
returns-then-if_updating-clause-applied g c = λ d h. record {
  contents = d;
  holds = h;
  applies = refused_applies c.args.replica c.args.request d _ _ _ (sym c.if_updating.ensures ∙ c.if-if_updating.true) c.in_ok-refuse.ensures.ok;
}

pub returns-then-if_updating-clause-leaves : goal.returns-then-if_updating-clause-leaves
returns-then-if_updating-clause-leaves g c = leaves_nothing g.B.S.Space g.B.Storage.own g.B.Storage.layout _ c.args.space.now c.requires.ready.sound

pub returns-then-if_updating-clause-tight : goal.returns-then-if_updating-clause-tight
returns-then-if_updating-clause-tight g c = λ packs. never_packs c.args.replica c.args.request (sym c.if_updating.ensures ∙ c.if-if_updating.true) packs

pub returns-then-if_updating-clause-blocked : goal.returns-then-if_updating-clause-blocked
returns-then-if_updating-clause-blocked g c = λ e. refl

pub returns-clause-blocked : goal.returns-clause-blocked
returns-clause-blocked g c = IfOk-weaker c.apply.result _ _ (λ a served e. absurd (let f = sym e ∙ (sym c.if_updating.ensures ∙ c.if-if_updating.false) in cc)) c.apply.ensures.applied

pub returns-clause-applied : goal.returns-clause-applied
returns-clause-applied g c = IfOk-weaker c.apply.result _ _ (λ a served. served_alike g.B.S.Space g.B.Storage.holds c.args.replica c.args.request a c.args.base.now c.apply.new.self c.args.space.now c.apply.new.space c.args.walk.now c.apply.new.walk c.args.reply.now c.apply.new.reply (sym c.if_updating.ensures ∙ c.if-if_updating.false) served) c.apply.ensures.applied

pub returns-clause-full : goal.returns-clause-full
returns-clause-full g c = λ is. let full = c.apply.ensures.full is in record {
  writes = full.writes;
  packs = full.packs;
  by = λ d h. subst (λ (s : Step). g.B.Storage.fills c.args.base.now c.args.space.now c.apply.new.space d s.contents) (sym (apply_same c.args.replica c.args.request d c.args.walk.now (sym c.if_updating.ensures ∙ c.if-if_updating.false))) (full.by d h);
}

pub returns-in_err-refuse-clause-reply_front : goal.returns-in_err-refuse-clause-reply_front
returns-in_err-refuse-clause-reply_front g c = ([], c.in_err-refuse.ensures.err ∙ sym (append-nil c.args.reply.now))
