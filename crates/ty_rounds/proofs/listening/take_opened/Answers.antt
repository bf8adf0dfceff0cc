use Rattle.std.proofs.Common.{rules, List, subst, sym, ap, ◌∙◌, ◌++◌, ◌∷◌, [], not, ℕ, length}
use Rattle.std.specs.Prelude.{nat_lt}
use Rattle.ty_core.specs.Queues.{Queue}
use Rattle.ty_world.specs.World.{clients_in, new_client}
use Rattle.ty_rounds.specs.Holding.{AllHold}
use Rattle.ty_rounds.specs.Peers.{count_clients, is_called}
use Rattle.ty_rounds.specs.declared.peer.Peer.{Peer}
use Rattle.ty_rounds.proofs.Few.{few_push, calm_stirs}
use Rattle.ty_rounds.proofs.Links.{know_push}
use Rattle.ty_rounds.proofs.Spans.{span_push}
use Rattle.ty_rounds.proofs.Hearing.{opens}
use Rattle.ty_rounds.proofs.listening.take_opened.Goals as goal

pub returns-clause-heard : goal.returns-clause-heard
returns-clause-heard c = λ b ks a. subst (λ (l : List Peer). AllHold b l (ks ++ new_client c.args.conn (clients_in ks) ∷ [])) (sym c.in_ok-push.ensures.items)
    (opens b c.args.peers.now.items ks c.new-p.result c.args.conn c.new-p.ensures.conn c.new-p.ensures.role c.new-p.ensures.session c.new-p.ensures.gone c.new-p.ensures.ended (c.new-p.ensures.extra ∙ ap (λ (n : ℕ). not (nat_lt n 64)) (c.clients_among.ensures ∙ ap count_clients c.deref.ensures.value)) a)

pub returns-clause-few : goal.returns-clause-few
returns-clause-few c = few_push _ _ c.new-p.result c.in_ok-push.ensures.items c.new-p.ensures.role (ap (λ (z : Queue). length z.unread) c.new-p.ensures.session) (ap (λ (z : Queue). length z.waiting) c.new-p.ensures.session)

pub returns-clause-calm : goal.returns-clause-calm
returns-clause-calm c = λ h. span_push c.args.span.now _ _ _ c.new-p.result c.in_ok-push.ensures.items (search rules) (calm_stirs _ c.new-p.ensures.stirs) h

pub returns-clause-links : goal.returns-clause-links
returns-clause-links c = λ l h. know_push l c.args.peers.now.items _ c.new-p.result c.in_ok-push.ensures.items (ap is_called c.new-p.ensures.role) h
