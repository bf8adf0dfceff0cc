use Rattle.std.proofs.Common.{rules, tests, not}
use Rattle.std.proofs.lemmas.Iterator.{YieldsList-from_slice}
use Rattle.std.proofs.lemmas.Iterator.Consumers.{YieldsList-from_filter, count_from_yields_List}
use Rattle.ty_rounds.specs.Peers.{is_called}
use Rattle.ty_rounds.specs.declared.peer.Peer.{Peer}
use Rattle.ty_rounds.proofs.listening.clients_among.Goals as goal

pub returns : goal.returns
returns c = count_from_yields_List c.filter.result _ c.count.ensures.ran (YieldsList-from_filter _ (λ (p : Peer). not (is_called p.role)) (YieldsList-from_slice c.args.peers.now (cc)) c.filter.ensures.closure (λ x b q k. search (rules, tests)))
