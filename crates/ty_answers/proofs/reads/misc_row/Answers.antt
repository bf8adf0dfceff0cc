use Rattle.std.proofs.Common.{false, sym, option_map}
use Rattle.tc_base.specs.declared.request.Reply.TheVariants as reply
use Rattle.tc_model.specs.declared.misc.Misc.TheVariants as misc
use Rattle.tc_model.specs.Meaning.{row_held}
use Rattle.tc_model.specs.Rows.{texts_of}
use Rattle.ty_answers.specs.Answers.{told_by}
use Rattle.ty_answers.specs.Calls.{meant}
use Rattle.ty_answers.specs.Lists.{no_rows, room}
use Rattle.ty_answers.specs.declared.voice.Voice.TheVariants.{Misc}
use Rattle.ty_answers.proofs.RowReplies.{front_of, has_count}
use Rattle.ty_answers.proofs.Telling.{texts_meant, texts_read, same_effect}
use Rattle.ty_answers.proofs.reads.misc_row.Goals as goal

pub end_list-requires : goal.end_list-requires
end_list-requires g c = has_count c.in_ok-rows.rows c.row-found.new.into c.args.reply.now c.len-begin.result room c.len-begin.ensures c.in_ok-rows.ensures.ok c.row-found.ensures.front

pub returns-clause-answers : goal.returns-clause-answers
returns-clause-answers g c =
    same_effect g.E.S.Space g.E.Storage.own g.E.Storage.layout g.E.Storage.holds (told_by (λ k. option_map (λ v. reply.List v) (option_map texts_of (row_held k c.args.key.now)))) (meant (misc.GetRow c.args.key.now)) reply.FailMisc false c.end_list.result c.args.engine.now c.row-found.new.self c.args.space.now c.row-found.new.space c.args.reply.now c.end_list.new.reply
    (λ k. texts_meant k (option_map texts_of (row_held k c.args.key.now)))
    (texts_read g.E.S.Space g.E.Storage.own g.E.Storage.layout g.E.Storage.holds (λ k. option_map texts_of (row_held k c.args.key.now)) Misc false c.end_list.result c.row-found.result c.in_ok-rows.rows c.row-found.new.into c.len-begin.result c.args.engine.now c.row-found.new.self c.args.space.now c.row-found.new.space c.args.reply.now c.end_list.new.reply
    c.len-begin.ensures c.in_ok-rows.ensures.ok c.row-found.ensures.front c.row-found.ensures.value c.row-found.ensures.reads c.row-found.ensures.keeps c.end_list.ensures.ok)

pub returns-clause-front : goal.returns-clause-front
returns-clause-front g c = c.end_list.ensures.front c.args.reply.now (sym c.len-begin.ensures) (front_of c.in_ok-rows.rows c.row-found.new.into c.args.reply.now no_rows room c.in_ok-rows.ensures.ok c.row-found.ensures.front)
