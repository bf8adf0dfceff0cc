use Rattle.std.proofs.Common.{rules, refl, ◌<◌, length, true}
use Rattle.ty_world.specs.World.{with_end}
use Rattle.ty_rounds.specs.declared.peer.Peer.{Peer}
use Rattle.ty_rounds.proofs.Places.{others_hold, set_holds, none_there, found_there}
use Rattle.ty_rounds.proofs.ServingLaws.{numbers_kept}
use Rattle.ty_rounds.proofs.Few.{few_refl, few_set, calm_stirs}
use Rattle.ty_rounds.proofs.Links.{keeps_one, keeps_role}
use Rattle.ty_rounds.proofs.Spans.{span_set}
use Rattle.ty_rounds.proofs.Hearing.{ends}
use Rattle.ty_rounds.proofs.listening.take_end.Goals as goal

abbrev ended : Peer → Peer
ended p = record p { ended = true; stirs = true }

pub returns-in_default-clause-heard : goal.returns-in_default-clause-heard
returns-in_default-clause-heard c = λ b ks a. others_hold b c.args.conn with_end c.args.peers.now.items ks (none_there _ _ c.args.conn c.deref.ensures.value c.in_default.ensures.none) a

pub index_mut-p-requires : goal.index_mut-p-requires
index_mut-p-requires c = let b : c.in-Some.i < length c.args.peers.now.items = (found_there c.deref.result.now c.args.peers.now.items c.in-Some.i c.args.conn c.deref.ensures.value c.in-Some.ensures.found).below in search rules

pub returns-clause-heard : goal.returns-clause-heard
returns-clause-heard c = λ b ks a.
    let there = found_there c.deref.result.now c.args.peers.now.items c.in-Some.i c.args.conn c.deref.ensures.value c.in-Some.ensures.found in
    let p = c.index_mut-p.result.now in
    set_holds b c.args.conn with_end c.args.peers.now.items ks c.in-Some.i p (ended p) c.requires there.below (search rules) (there.at p (search rules)) (λ k h. ends b p k h) a

pub returns-clause-numbers : goal.returns-clause-numbers
returns-clause-numbers c = numbers_kept c.args.peers.now.items c.in-Some.i c.index_mut-p.result.now (ended c.index_mut-p.result.now) (found_there c.deref.result.now c.args.peers.now.items c.in-Some.i c.args.conn c.deref.ensures.value c.in-Some.ensures.found).below (search rules) refl

pub returns-in_default-clause-few : goal.returns-in_default-clause-few
returns-in_default-clause-few c = few_refl _

pub returns-clause-few : goal.returns-clause-few
returns-clause-few c = few_set c.args.peers.now.items c.in-Some.i c.index_mut-p.result.now (ended c.index_mut-p.result.now) (found_there c.deref.result.now c.args.peers.now.items c.in-Some.i c.args.conn c.deref.ensures.value c.in-Some.ensures.found).below (search rules) (λ h. h) (λ h. h)

pub returns-clause-calm : goal.returns-clause-calm
returns-clause-calm c = λ h. span_set c.args.span.now _ c.args.peers.now.items c.in-Some.i (ended c.index_mut-p.result.now) (found_there c.deref.result.now c.args.peers.now.items c.in-Some.i c.args.conn c.deref.ensures.value c.in-Some.ensures.found).below c.add.ensures (calm_stirs _ refl) h

pub returns-in_default-clause-links : goal.returns-in_default-clause-links
returns-in_default-clause-links c = λ l h. h

pub returns-clause-links : goal.returns-clause-links
returns-clause-links c =
    let there = found_there c.deref.result.now c.args.peers.now.items c.in-Some.i c.args.conn c.deref.ensures.value c.in-Some.ensures.found in
    let p = c.index_mut-p.result.now in
    (keeps_one c.args.peers.now.items c.in-Some.i p (ended p) there.below (search rules) (keeps_role p (ended p) refl)).know
