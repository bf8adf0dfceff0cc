use Rattle.std.proofs.Common.{false, sym, [], ◌∷◌, option_map}
use Rattle.tc_base.specs.declared.request.Reply.TheVariants as reply
use Rattle.tc_model.specs.declared.misc.Misc.TheVariants as misc
use Rattle.tc_model.specs.Stores.{held}
use Rattle.ty_answers.specs.Answers.{told_by}
use Rattle.ty_answers.specs.Calls.{meant}
use Rattle.ty_answers.specs.Lists.{no_rows, room}
use Rattle.ty_answers.specs.declared.voice.Voice.TheVariants.{Misc}
use Rattle.ty_answers.proofs.RowReplies.{front_of, has_count}
use Rattle.ty_answers.proofs.Telling.{element_meant, element_read, same_effect}
use Rattle.ty_answers.proofs.reads.misc_get.Goals as goal

pub end_list-requires : goal.end_list-requires
end_list-requires g c = has_count c.in_ok-rows.rows c.item-found.new.into c.args.reply.now c.len-begin.result room c.len-begin.ensures c.in_ok-rows.ensures.ok c.item-found.ensures.front

pub returns-clause-answers : goal.returns-clause-answers
returns-clause-answers g c =
    same_effect g.E.S.Space g.E.Storage.own g.E.Storage.layout g.E.Storage.holds (told_by (λ k. option_map (λ v. reply.List (v ∷ [])) (held k c.args.key.now))) (meant (misc.Get c.args.key.now)) reply.FailMisc false c.end_list.result c.args.engine.now c.item-found.new.self c.args.space.now c.item-found.new.space c.args.reply.now c.end_list.new.reply
    (λ k. element_meant k (held k c.args.key.now))
    (element_read g.E.S.Space g.E.Storage.own g.E.Storage.layout g.E.Storage.holds (λ k. held k c.args.key.now) Misc false c.end_list.result c.item-found.result c.in_ok-rows.rows c.item-found.new.into c.len-begin.result c.args.engine.now c.item-found.new.self c.args.space.now c.item-found.new.space c.args.reply.now c.end_list.new.reply
    c.len-begin.ensures c.in_ok-rows.ensures.ok c.item-found.ensures.front c.item-found.ensures.value c.item-found.ensures.reads c.item-found.ensures.keeps c.end_list.ensures.ok)

pub returns-clause-front : goal.returns-clause-front
returns-clause-front g c = c.end_list.ensures.front c.args.reply.now (sym c.len-begin.ensures) (front_of c.in_ok-rows.rows c.item-found.new.into c.args.reply.now no_rows room c.in_ok-rows.ensures.ok c.item-found.ensures.front)
