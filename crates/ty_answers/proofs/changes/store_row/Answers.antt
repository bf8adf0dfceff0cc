use Rattle.ty_answers.proofs.Making.{kept_front}
use Rattle.ty_answers.proofs.changes.store_row.Goals as goal

pub returns-in_err-close-clause-front : goal.returns-in_err-close-clause-front
returns-in_err-close-clause-front g c = kept_front c.args.reply.now _ c.say.new.reply c.close.new.reply c.len-begin.result c.len-begin.ensures c.in_ok-say.ensures.ok c.in_err-close.ensures.front

pub returns-clause-front : goal.returns-clause-front
returns-clause-front g c = kept_front c.args.reply.now _ c.say.new.reply c.close.new.reply c.len-begin.result c.len-begin.ensures c.in_ok-say.ensures.ok c.in_ok-close.ensures.front
