use Rattle.std.proofs.Common.{ℕ, List, map, false, sym, subst, ap, ◌∙◌}
use Rattle.std.specs.Int.{w32}
use Rattle.std.proofs.lemmas.Int.{to_z-of_z}
use Rattle.std.proofs.lemmas.Result.{on_ok_weaker}
use Rattle.tc_model.specs.Apply.{at_most, keys_from}
use Rattle.tc_engine.specs.Rows.{Adds, item_row}
use Rattle.tc_space.specs.declared.errors.RecErr.TheVariants.{Fault, Full}
use Rattle.ty_answers.specs.Lists.{no_rows, room}
use Rattle.ty_answers.specs.declared.voice.Voice.TheVariants.{Plain}
use Rattle.ty_answers.proofs.RowReplies.{front_of, has_count}
use Rattle.ty_answers.proofs.Telling.{and_err, items_read}
use Rattle.ty_answers.proofs.reads.fwmkeys.Goals as goal

pub end_list-requires : goal.end_list-requires
end_list-requires g c = has_count c.in_ok-rows.rows c.keys_from-filled.new.into c.args.reply.now c.len-begin.result room c.len-begin.ensures c.in_ok-rows.ensures.ok c.keys_from-filled.ensures.front

pub returns-clause-answers : goal.returns-clause-answers
returns-clause-answers g c =
    items_read g.E.S.Space g.E.Storage.own g.E.Storage.layout g.E.Storage.holds (λ k. at_most c.args.maximum (keys_from k c.args.prefix.now)) Plain false c.end_list.result c.and.result c.keys_from-filled.result c.in_ok-rows.rows c.keys_from-filled.new.into c.len-begin.result c.args.engine.now c.keys_from-filled.new.self c.args.space.now c.keys_from-filled.new.space c.args.reply.now c.end_list.new.reply
    c.len-begin.ensures c.in_ok-rows.ensures.ok c.keys_from-filled.ensures.front c.and.ensures
    (on_ok_weaker c.keys_from-filled.result (λ f k h. subst (λ (xs : List (List ℕ)). Adds c.in_ok-rows.rows c.keys_from-filled.new.into (map item_row xs)) (c.limit.ensures (keys_from k c.args.prefix.now) ∙ ap (λ m. at_most m (keys_from k c.args.prefix.now)) (to_z-of_z w32 c.args.maximum c.ranges.maximum)) (f k h)) c.keys_from-filled.ensures.rows)
    c.keys_from-filled.ensures.reads c.keys_from-filled.ensures.keeps c.end_list.ensures.ok

pub returns-clause-front : goal.returns-clause-front
returns-clause-front g c = c.end_list.ensures.front c.args.reply.now (sym c.len-begin.ensures) (front_of c.in_ok-rows.rows c.keys_from-filled.new.into c.args.reply.now no_rows room c.in_ok-rows.ensures.ok c.keys_from-filled.ensures.front)

pub returns-clause-cause : goal.returns-clause-cause
returns-clause-cause g c = (
  λ i. c.keys_from-filled.ensures.cause.0 (and_err c.keys_from-filled.result Fault (sym c.and.ensures ∙ c.end_list.ensures.fault i)),
  λ i. c.keys_from-filled.ensures.cause.1 (and_err c.keys_from-filled.result Full (sym c.and.ensures ∙ c.end_list.ensures.full i)),
)
