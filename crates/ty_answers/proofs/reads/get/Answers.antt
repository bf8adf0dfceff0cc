use Rattle.std.proofs.Common.{false, sym, [], ◌∷◌}
use Rattle.tc_model.specs.Stores.{held}
use Rattle.ty_answers.specs.declared.voice.Voice.TheVariants.{Plain}
use Rattle.ty_answers.proofs.RowReplies.{front_of}
use Rattle.ty_answers.proofs.Telling.{value_read}
use Rattle.ty_answers.proofs.reads.get.Goals as goal

pub returns-clause-answers : goal.returns-clause-answers
returns-clause-answers g c =
    value_read g.E.S.Space g.E.Storage.own g.E.Storage.layout g.E.Storage.holds (λ k. held k c.args.key.now) Plain false c.give_back.result c.item-found.result c.in_ok-rows.rows c.item-found.new.into c.len-begin.result c.args.engine.now c.item-found.new.self c.args.space.now c.item-found.new.space c.args.reply.now c.give_back.new.reply
    c.len-begin.ensures c.in_ok-rows.ensures.ok c.item-found.ensures.front c.item-found.ensures.value c.item-found.ensures.reads c.item-found.ensures.keeps c.give_back.ensures.ok

pub returns-clause-front : goal.returns-clause-front
returns-clause-front g c = c.give_back.ensures.front c.args.reply.now (sym c.len-begin.ensures) (front_of c.in_ok-rows.rows c.item-found.new.into c.args.reply.now (0 ∷ []) 67108863 c.in_ok-rows.ensures.ok c.item-found.ensures.front)
