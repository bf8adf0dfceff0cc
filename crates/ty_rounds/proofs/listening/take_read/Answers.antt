use Rattle.std.proofs.Common.{rules, ap, sym, subst, ◌∙◌, ◌<◌, length, set}
use Rattle.ty_world.specs.World.{with_read}
use Rattle.ty_rounds.specs.Holding.{Holds}
use Rattle.ty_rounds.specs.Peers.{is_busy}
use Rattle.ty_rounds.specs.Ready.{LinksKnow, StayFew}
use Rattle.ty_rounds.specs.declared.peer.Peer.{Peer}
use Rattle.ty_rounds.proofs.Places.{others_hold, set_holds, none_there, found_there}
use Rattle.ty_rounds.proofs.ServingLaws.{numbers_kept}
use Rattle.ty_rounds.proofs.Few.{few_refl, few_read, calm_settled}
use Rattle.ty_rounds.proofs.Links.{know_read}
use Rattle.ty_rounds.proofs.Spans.{span_settled}
use Rattle.ty_rounds.proofs.Hearing.{reads}
use Rattle.ty_rounds.proofs.listening.take_read.Goals as goal

pub returns-in_default-clause-heard : goal.returns-in_default-clause-heard
returns-in_default-clause-heard c = λ b ks a. others_hold b c.args.conn (with_read c.args.bytes.now) c.args.peers.now.items ks (none_there _ _ c.args.conn c.deref.ensures.value c.in_default.ensures.none) a

pub index_mut-p-requires : goal.index_mut-p-requires
index_mut-p-requires c = let b : c.in-Some.i < length c.args.peers.now.items = (found_there c.deref.result.now c.args.peers.now.items c.in-Some.i c.args.conn c.deref.ensures.value c.in-Some.ensures.found).below in search rules

pub returns-clause-heard : goal.returns-clause-heard
returns-clause-heard c = λ b ks a.
    let there = found_there c.deref.result.now c.args.peers.now.items c.in-Some.i c.args.conn c.deref.ensures.value c.in-Some.ensures.found in
    let p = c.index_mut-p.result.now in
    let m = c.push.new.self in
    set_holds b c.args.conn (with_read c.args.bytes.now) c.args.peers.now.items ks c.in-Some.i p c.settle.new.self c.requires there.below (search rules) (there.at p (search rules))
    (λ k h. subst (λ (z : Peer). Holds b z (with_read c.args.bytes.now k)) (sym c.settle.ensures) (reads b p m (is_busy m) c.args.bytes.now k c.in_ok-push.ensures.ok h)) a

pub returns-clause-numbers : goal.returns-clause-numbers
returns-clause-numbers c =
    let there = found_there c.deref.result.now c.args.peers.now.items c.in-Some.i c.args.conn c.deref.ensures.value c.in-Some.ensures.found in
    numbers_kept c.args.peers.now.items c.in-Some.i c.index_mut-p.result.now c.settle.new.self there.below (search rules) (ap (λ (z : Peer). z.conn) c.settle.ensures ∙ ap (λ (z : Peer). z.conn) c.in_ok-push.ensures.ok.is)

pub returns-in_default-clause-few : goal.returns-in_default-clause-few
returns-in_default-clause-few c = λ idle none known long. few_refl _

pub returns-clause-few : goal.returns-clause-few
returns-clause-few c = λ idle none known long.
    let there = found_there c.deref.result.now c.args.peers.now.items c.in-Some.i c.args.conn c.deref.ensures.value c.in-Some.ensures.found in
    let ps = c.args.peers.now.items in
    let p = c.index_mut-p.result.now in
    let m = c.push.new.self in
    subst (λ (z : Peer). StayFew ps (set ps c.in-Some.i z)) (sym c.settle.ensures)
    (few_read ps c.in-Some.i c.args.conn p m (is_busy m) c.sight-sight.result c.args.bytes.now there.below (search rules) (there.at p (search rules)) c.sight-sight.ensures.sight c.sight-sight.ensures.few idle none known long c.in_ok-push.ensures.ok)

pub returns-clause-calm : goal.returns-clause-calm
returns-clause-calm c = λ h.
    let there = found_there c.deref.result.now c.args.peers.now.items c.in-Some.i c.args.conn c.deref.ensures.value c.in-Some.ensures.found in
    span_settled c.args.span.now _ c.args.peers.now.items c.in-Some.i c.settle.new.self there.below c.add_stirring.ensures (calm_settled c.push.new.self c.settle.new.self c.settle.ensures) h

pub returns-in_default-clause-links : goal.returns-in_default-clause-links
returns-in_default-clause-links c = λ l h. h

pub returns-clause-links : goal.returns-clause-links
returns-clause-links c = λ l h.
    let there = found_there c.deref.result.now c.args.peers.now.items c.in-Some.i c.args.conn c.deref.ensures.value c.in-Some.ensures.found in
    let ps = c.args.peers.now.items in
    let p = c.index_mut-p.result.now in
    let m = c.push.new.self in
    subst (λ (z : Peer). LinksKnow l (set ps c.in-Some.i z)) (sym c.settle.ensures) (know_read l ps c.in-Some.i p m (is_busy m) c.args.bytes.now there.below (search rules) c.in_ok-push.ensures.ok h)
