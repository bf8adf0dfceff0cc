use Rattle.std.proofs.Common.{false, sym, ◌∙◌}
use Rattle.std.specs.Prelude.{flat_map}
use Rattle.tc_model.specs.Rows.{texts_of}
use Rattle.tc_model.specs.Stores.{all_pairs}
use Rattle.tc_space.specs.declared.errors.RecErr.TheVariants.{Fault, Full}
use Rattle.ty_answers.specs.Lists.{no_rows, room}
use Rattle.ty_answers.specs.declared.voice.Voice.TheVariants.{Misc}
use Rattle.ty_answers.proofs.RowReplies.{front_of, has_count}
use Rattle.ty_answers.proofs.Telling.{and_err, items_read}
use Rattle.ty_answers.proofs.reads.misc_getlist.Goals as goal

pub end_list-requires : goal.end_list-requires
end_list-requires g c = has_count c.in_ok-rows.rows c.fill_all-filled.new.into c.args.reply.now c.len-begin.result room c.len-begin.ensures c.in_ok-rows.ensures.ok c.fill_all-filled.ensures.front

pub returns-clause-answers : goal.returns-clause-answers
returns-clause-answers g c =
    items_read g.E.S.Space g.E.Storage.own g.E.Storage.layout g.E.Storage.holds (λ k. texts_of (flat_map (all_pairs k) c.args.keys)) Misc false c.end_list.result c.and.result c.fill_all-filled.result c.in_ok-rows.rows c.fill_all-filled.new.into c.len-begin.result c.args.engine.now c.fill_all-filled.new.engine c.args.space.now c.fill_all-filled.new.space c.args.reply.now c.end_list.new.reply
    c.len-begin.ensures c.in_ok-rows.ensures.ok c.fill_all-filled.ensures.front c.and.ensures c.fill_all-filled.ensures.rows c.fill_all-filled.ensures.reads c.fill_all-filled.ensures.keeps c.end_list.ensures.ok

pub returns-clause-front : goal.returns-clause-front
returns-clause-front g c = c.end_list.ensures.front c.args.reply.now (sym c.len-begin.ensures) (front_of c.in_ok-rows.rows c.fill_all-filled.new.into c.args.reply.now no_rows room c.in_ok-rows.ensures.ok c.fill_all-filled.ensures.front)

pub returns-clause-cause : goal.returns-clause-cause
returns-clause-cause g c = (
  λ i. c.fill_all-filled.ensures.cause.0 (and_err c.fill_all-filled.result Fault (sym c.and.ensures ∙ c.end_list.ensures.fault i)),
  λ i. c.fill_all-filled.ensures.cause.1 (and_err c.fill_all-filled.result Full (sym c.and.ensures ∙ c.end_list.ensures.full i)),
)
