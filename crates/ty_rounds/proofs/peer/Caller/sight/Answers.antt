use Rattle.ty_rounds.proofs.Seeing.{record_part}
use Rattle.ty_rounds.proofs.peer.Caller.sight.Goals as goal

pub returns-in-Part-clause-few : goal.returns-in-Part-clause-few
returns-in-Part-clause-few c = λ named. record_part c.args.self.now.link.unread (c.in-Part.ensures.grammar named)
