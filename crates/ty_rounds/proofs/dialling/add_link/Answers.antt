use Rattle.std.proofs.Common.{rules}
use Rattle.ty_rounds.proofs.DialLaws.{link_calm}
use Rattle.ty_rounds.proofs.Spans.{span_push}
use Rattle.ty_rounds.proofs.dialling.add_link.Goals as goal

pub returns-clause-linked : goal.returns-clause-linked
returns-clause-linked c = record { link = c.in_ok-p.p; linked = c.in_ok-p.ensures.linked; more = c.in_ok-push.ensures.items }

pub returns-clause-calm : goal.returns-clause-calm
returns-clause-calm c = λ h. span_push c.args.span.now _ c.args.peers.now.items _ c.in_ok-p.p c.in_ok-push.ensures.items (search rules) (link_calm _ _ _ c.in_ok-p.ensures.linked) h
