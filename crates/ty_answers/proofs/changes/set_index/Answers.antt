use Rattle.std.proofs.Common.{◌∙◌, ◌++◌, cond, take, ap}
use Rattle.ty_wire.specs.Spelling.{reply_bytes}
use Rattle.tc_engine.specs.Changes.{index_set}
use Rattle.ty_answers.specs.Answers.{done_reply, fail_reply}
use Rattle.ty_answers.proofs.Making.{closed, kept_front, made, voice_fits}
use Rattle.ty_answers.proofs.changes.set_index.Goals as goal

pub returns-in_err-close-clause-front : goal.returns-in_err-close-clause-front
returns-in_err-close-clause-front g c = kept_front c.args.reply.now _ c.say.new.reply c.close.new.reply c.len-begin.result c.len-begin.ensures c.in_ok-say.ensures.ok c.in_err-close.ensures.front

pub returns-clause-front : goal.returns-clause-front
returns-clause-front g c = kept_front c.args.reply.now _ c.say.new.reply c.close.new.reply c.len-begin.result c.len-begin.ensures c.in_ok-say.ensures.ok c.in_ok-close.ensures.front

pub returns-clause-answers : goal.returns-clause-answers
returns-clause-answers g c =
    made g.E.S.Space g.E.Storage.own g.E.Storage.layout g.E.Storage.holds (done_reply c.args.voice) (fail_reply c.args.voice) (index_set c.args.column c.args.code.now) c.in_ok-done.done c.args.engine.now c.set_index.new.self c.args.space.now c.set_index.new.space c.args.reply.now c.close.new.reply (voice_fits c.args.voice) c.in_ok-done.ensures.makes c.in_ok-done.ensures.keeps
    (closed c.in_ok-done.done (done_reply c.args.voice) (fail_reply c.args.voice) c.args.reply.now c.say.new.reply c.close.new.reply c.in_ok-say.ensures.ok
    (c.in_ok-close.ensures.ok ∙ ap (λ n. cond c.in_ok-done.done c.say.new.reply (take n c.say.new.reply ++ reply_bytes (fail_reply c.args.voice))) c.len-begin.ensures))
