use Rattle.ty_rounds.proofs.Seeing.{client_part}
use Rattle.ty_rounds.proofs.peer.Peer.sight.Goals as goal

pub returns-in-Part-clause-few : goal.returns-in-Part-clause-few
returns-in-Part-clause-few c = client_part c.args.self.now c.in-Client.is c.in-Part.ensures.grammar
