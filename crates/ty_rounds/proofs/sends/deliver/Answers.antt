use Rattle.std.proofs.Common.{rules, refl, ap}
use Rattle.tc_space.specs.Frames.{only_reads_refl}
use Rattle.ty_base.proofs.Refusals.{err_is}
use Rattle.ty_rounds.specs.declared.peer.Peer.{Peer}
use Rattle.ty_rounds.proofs.Alone.{alone_done}
use Rattle.ty_rounds.proofs.Few.{calm_settled, few_refl, few_same, quiet_taken}
use Rattle.ty_rounds.proofs.Links.{keeps_role, keeps_same, link_then}
use Rattle.ty_rounds.proofs.SendLaws.{nothing_fed, settles}
use Rattle.ty_rounds.proofs.sends.deliver.Goals as goal

pub returns-then-not-p-clause-wire_stays : goal.returns-then-not-p-clause-wire_stays
returns-then-not-p-clause-wire_stays g c = record { opened = c.requires.opened; conns = refl; given = refl }

pub returns-then-not-p-clause-told : goal.returns-then-not-p-clause-told
returns-then-not-p-clause-told g c = let q = c.requires.calm (search rules) in nothing_fed g.S.Space g.W.Wire c.args.logged.now c.args.space.now _ c.args.p.now q.unfed (quiet_taken c.args.p.now q)

pub returns-then-not-p-clause-few : goal.returns-then-not-p-clause-few
returns-then-not-p-clause-few g c = few_refl _

pub returns-then-not-p-clause-links : goal.returns-then-not-p-clause-links
returns-then-not-p-clause-links g c = keeps_same c.args.p.now

pub returns-then-not-p-clause-reads : goal.returns-then-not-p-clause-reads
returns-then-not-p-clause-reads g c = only_reads_refl g.S.Space c.args.space.now c.requires.sound

pub returns-then-not-p-clause-alone : goal.returns-then-not-p-clause-alone
returns-then-not-p-clause-alone g c = alone_done c.args.logged.now

pub returns-in_err-offer_all-clause-told : goal.returns-in_err-offer_all-clause-told
returns-in_err-offer_all-clause-told g c = rw (err_is c.from_residual.result _ c.from_residual.ensures.1) c.in_err-offer_all.ensures.told

pub returns-in_err-offer_all-clause-alone : goal.returns-in_err-offer_all-clause-alone
returns-in_err-offer_all-clause-alone g c = rw (err_is c.from_residual.result _ c.from_residual.ensures.1) c.in_err-offer_all.ensures.alone

pub returns-clause-told : goal.returns-clause-told
returns-clause-told g c = settles g.S.Space g.W.Wire c.args.logged.now c.args.space.now _ _ c.args.p.now c.offer_all.new.p c.settle.new.self c.settle.ensures c.in_ok-offer_all.ensures.told

pub returns-clause-few : goal.returns-clause-few
returns-clause-few g c = few_same c.args.p.now c.offer_all.new.p c.settle.new.self (ap (λ (z : Peer). z.session) c.settle.ensures) (ap (λ (z : Peer). z.role) c.settle.ensures) c.in_ok-offer_all.ensures.few

pub returns-clause-links : goal.returns-clause-links
returns-clause-links g c = link_then c.args.p.now c.offer_all.new.p c.settle.new.self c.in_ok-offer_all.ensures.links (keeps_role c.offer_all.new.p c.settle.new.self (ap (λ (z : Peer). z.role) c.settle.ensures))

pub returns-clause-calm : goal.returns-clause-calm
returns-clause-calm g c = calm_settled c.offer_all.new.p c.settle.new.self c.settle.ensures

pub returns-clause-alone : goal.returns-clause-alone
returns-clause-alone g c = alone_done c.args.logged.now
