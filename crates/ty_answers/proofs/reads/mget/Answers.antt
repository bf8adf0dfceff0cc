use Rattle.std.proofs.Common.{ℕ, List, false, sym, subst, ◌∙◌}
use Rattle.std.proofs.lemmas.Result.{on_ok_weaker}
use Rattle.std.specs.Prelude.{flat_map}
use Rattle.tc_model.specs.Stores.{first_pair}
use Rattle.tc_engine.specs.Rows.{Adds, pair_rows}
use Rattle.tc_space.specs.declared.errors.RecErr.TheVariants.{Fault, Full}
use Rattle.ty_answers.specs.Lists.{no_rows, room}
use Rattle.ty_answers.specs.declared.voice.Voice.TheVariants.{Plain}
use Rattle.ty_answers.proofs.RowReplies.{front_of, has_count}
use Rattle.ty_answers.proofs.Telling.{and_err, pairs_read}
use Rattle.ty_answers.proofs.reads.mget.Goals as goal

pub end_list-requires : goal.end_list-requires
end_list-requires g c = has_count c.in_ok-rows.rows c.fill_pairs-filled.new.into c.args.reply.now c.len-begin.result room c.len-begin.ensures c.in_ok-rows.ensures.ok c.fill_pairs-filled.ensures.front

pub returns-clause-answers : goal.returns-clause-answers
returns-clause-answers g c =
    pairs_read g.E.S.Space g.E.Storage.own g.E.Storage.layout g.E.Storage.holds (λ k. flat_map (first_pair k) c.args.keys.now) Plain false c.end_list.result c.and.result c.fill_pairs-filled.result c.in_ok-rows.rows c.fill_pairs-filled.new.into c.len-begin.result c.args.engine.now c.fill_pairs-filled.new.engine c.args.space.now c.fill_pairs-filled.new.space c.args.reply.now c.end_list.new.reply
    c.len-begin.ensures c.in_ok-rows.ensures.ok c.fill_pairs-filled.ensures.front c.and.ensures
    (on_ok_weaker c.fill_pairs-filled.result (λ f k h. subst (λ (xs : List (List ℕ)). Adds c.in_ok-rows.rows c.fill_pairs-filled.new.into (pair_rows (flat_map (first_pair k) xs))) c.as_slice.ensures (f k h)) c.fill_pairs-filled.ensures.rows)
    c.fill_pairs-filled.ensures.reads c.fill_pairs-filled.ensures.keeps c.end_list.ensures.ok

pub returns-clause-front : goal.returns-clause-front
returns-clause-front g c = c.end_list.ensures.front c.args.reply.now (sym c.len-begin.ensures) (front_of c.in_ok-rows.rows c.fill_pairs-filled.new.into c.args.reply.now no_rows room c.in_ok-rows.ensures.ok c.fill_pairs-filled.ensures.front)

pub returns-clause-cause : goal.returns-clause-cause
returns-clause-cause g c = (
  λ i. c.fill_pairs-filled.ensures.cause.0 (and_err c.fill_pairs-filled.result Fault (sym c.and.ensures ∙ c.end_list.ensures.fault i)),
  λ i. c.fill_pairs-filled.ensures.cause.1 (and_err c.fill_pairs-filled.result Full (sym c.and.ensures ∙ c.end_list.ensures.full i)),
)
