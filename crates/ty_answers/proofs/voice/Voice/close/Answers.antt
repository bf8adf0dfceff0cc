use Rattle.std.proofs.Common.{drop, sym}
use Rattle.std.proofs.lemmas.List.{take-append-drop}
use Rattle.ty_answers.proofs.voice.Voice.close.Goals as goal

pub returns-then-done-clause-front : goal.returns-then-done-clause-front
returns-then-done-clause-front c = (drop c.args.begin c.args.reply.now, sym (take-append-drop c.args.begin c.args.reply.now))
