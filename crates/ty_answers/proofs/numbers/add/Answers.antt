use Rattle.std.proofs.Common.{◌∙◌, ◌++◌, true, cond, take, ap, refl, subst, sym}
use Rattle.tc_base.specs.declared.kind.Mode.TheVariants.{Over}
use Rattle.tc_base.specs.declared.request.Reply.TheVariants.{Fail, Four}
use Rattle.ty_wire.specs.Spelling.{reply_bytes}
use Rattle.tc_engine.specs.Changes.{stored}
use Rattle.ty_answers.specs.Answers.{Answered, changed_by}
use Rattle.ty_answers.specs.Requests.{added}
use Rattle.ty_answers.proofs.Making.{after_reads, closed, if_ok, kept_front, made}
use Rattle.tc_model.specs.Contents.{is_narrow}
use Rattle.ty_answers.proofs.Sums.{no_sum, not_narrow, shows_sum}
use Rattle.ty_answers.proofs.Telling.{read_answers}
use Rattle.ty_answers.proofs.numbers.add.Goals as goal

pub returns-in_err-close-clause-front : goal.returns-in_err-close-clause-front
returns-in_err-close-clause-front g c = kept_front c.args.reply.now _ c.say.new.into c.close.new.reply c.len-begin.result c.len-begin.ensures c.in_ok-say.ensures.ok c.in_err-close.ensures.front

pub returns-clause-front : goal.returns-clause-front
returns-clause-front g c = kept_front c.args.reply.now _ c.say.new.into c.close.new.reply c.len-begin.result c.len-begin.ensures c.in_ok-say.ensures.ok c.in_ok-close.ensures.front

pub returns-clause-answers : goal.returns-clause-answers
returns-clause-answers g c =
    let s = g.E.S.Space in
    let holds = g.E.Storage.holds in
    let sum = c.in-Some.sum in
    let done = c.in_ok-done.done in
    let said = c.say.new.into in
    after_reads s g.E.Storage.own g.E.Storage.layout holds (added c.args.key c.args.number) (changed_by (Four sum) (stored Over c.args.key c.in_ok-value.value)) Fail true done c.args.engine.now c.value.new.self c.store.new.self c.args.space.now c.value.new.space c.store.new.space c.args.reply.now c.close.new.reply
    c.in_ok-held.ensures.reads c.in_ok-held.ensures.keeps
    (λ m h. shows_sum m c.args.key c.args.number sum c.in_ok-held.held c.in_ok-value.value (not_narrow (is_narrow m) (c.if-not-takes_numbers.ensures _ m h.1)) (c.in_ok-held.ensures.value m h) (sym c.in-Some.ensures) c.in_ok-value.ensures)
    (made s g.E.Storage.own g.E.Storage.layout holds (Four sum) Fail (stored Over c.args.key c.in_ok-value.value) done c.value.new.self c.store.new.self c.value.new.space c.store.new.space c.args.reply.now c.close.new.reply refl c.in_ok-done.ensures.makes c.in_ok-done.ensures.keeps
    (closed done (Four sum) Fail c.args.reply.now said c.close.new.reply c.in_ok-say.ensures.ok
    (c.in_ok-close.ensures.ok ∙ ap (λ n. cond done said (take n said ++ reply_bytes Fail)) c.len-begin.ensures)))

pub returns-in_default-clause-answers : goal.returns-in_default-clause-answers
returns-in_default-clause-answers g c = if_ok _ (λ done said.
    read_answers g.E.S.Space g.E.Storage.own g.E.Storage.layout g.E.Storage.holds (added c.args.key c.args.number) Fail true done c.args.engine.now c.value.new.self c.args.space.now c.value.new.space c.args.reply.now c.fail-in_default.new.reply
    c.in_ok-held.ensures.reads c.in_ok-held.ensures.keeps
    (λ m h. subst (λ x. Answered x Fail done m m c.args.reply.now c.fail-in_default.new.reply)
    (sym (no_sum m c.args.key c.args.number c.in_ok-held.held (not_narrow (is_narrow m) (c.if-not-takes_numbers.ensures _ m h.1)) (c.in_ok-held.ensures.value m h) (sym c.in_default.ensures)))
    (record { ok = said.0; contents = refl; bytes = said.1 }))) c.fail-in_default.ensures.said
