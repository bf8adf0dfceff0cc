use Rattle.std.proofs.Common.{rules, ◌≡◌, ◌∙◌, inl, inr, not, ap, set, subst, sym}
use Rattle.std.specs.Prelude.{Option, Some}
use Rattle.ty_rounds.specs.Linking.{FullLinks, Looks}
use Rattle.ty_rounds.specs.Peers.{is_called}
use Rattle.ty_rounds.specs.Works.{work}
use Rattle.ty_rounds.specs.declared.logging.Logged.{Logged}
use Rattle.ty_rounds.specs.declared.peer.Peer.{Peer}
use Rattle.ty_rounds.proofs.Few.{calm_stirs}
use Rattle.ty_rounds.proofs.LinkPart.{gap_none, leader, link_below, link_found, link_is, looks_found, looks_full, looks_none, no_leader, no_link_found, no_replica, taken_none}
use Rattle.ty_rounds.proofs.Spans.{span_set}
use Rattle.ty_rounds.proofs.linking.look.Goals as goal

pub returns-in_default-clause-looks : goal.returns-in_default-clause-looks
returns-in_default-clause-looks g c = looks_none g.B.S.Space g.B.Storage.own g.B.Storage.layout g.B.Storage.holds c.args.logged.now (work c.args.batch.now) c.args.base.now c.args.space.now c.args.walk.now c.args.peers.now.items (inl (no_replica c.args.logged.now (search rules))) (taken_none c.args.batch.now c.requires.alone.0) (gap_none c.args.batch.now c.requires.alone.1) c.requires.ready

pub returns-then-is_none-clause-looks : goal.returns-then-is_none-clause-looks
returns-then-is_none-clause-looks g c = looks_none g.B.S.Space g.B.Storage.own g.B.Storage.layout g.B.Storage.holds c.args.logged.now (work c.args.batch.now) c.args.base.now c.args.space.now c.args.walk.now c.args.peers.now.items (inl (no_leader c.args.logged.now c.in-Some.logged c.in-Some.is (c.is_none.ensures ∙ ap not c.if-is_none.true))) (taken_none c.args.batch.now c.requires.alone.0) (gap_none c.args.batch.now c.requires.alone.1) c.requires.ready

pub returns-in_default-place_of_link-clause-looks : goal.returns-in_default-place_of_link-clause-looks
returns-in_default-place_of_link-clause-looks g c = looks_none g.B.S.Space g.B.Storage.own g.B.Storage.layout g.B.Storage.holds c.args.logged.now (work c.args.batch.now) c.args.base.now c.args.space.now c.args.walk.now c.args.peers.now.items (inr (no_link_found c.args.peers.now.items c.deref.result.now c.deref.ensures.value c.in_default-place_of_link.ensures.at)) (taken_none c.args.batch.now c.requires.alone.0) (gap_none c.args.batch.now c.requires.alone.1) c.requires.ready

pub index_mut-p-requires : goal.index_mut-p-requires
index_mut-p-requires g c = let b = link_below c.args.peers.now.items c.in-Some-place_of_link.i (link_found c.args.peers.now.items c.deref.result.now c.in-Some-place_of_link.i c.deref.ensures.value c.in-Some-place_of_link.ensures.at) in search rules

pub look_peer-requires-clause-link : goal.look_peer-requires-clause-link
look_peer-requires-clause-link g c =
    let found = link_found c.args.peers.now.items c.deref.result.now c.in-Some-place_of_link.i c.deref.ensures.value c.in-Some-place_of_link.ensures.at in
    ap (λ (z : Peer). is_called z.role) (sym (link_is c.args.peers.now.items c.in-Some-place_of_link.i c.index_mut-p.result.now found (search rules))) ∙ found.is

pub returns-clause-looks : goal.returns-clause-looks
returns-clause-looks g c =
    let s = g.B.S.Space in
    let own = g.B.Storage.own in
    let layout = g.B.Storage.layout in
    let holds = g.B.Storage.holds in
    let ps = c.args.peers.now.items in
    let i = c.in-Some-place_of_link.i in
    let p = c.index_mut-p.result.now in
    let q = c.look_peer.new.p in
    let x = c.in-Some.logged in
    let is : c.args.logged.now ≡ Some x = c.in-Some.is in
    let at = leader x.master (c.is_none.ensures ∙ ap not c.if-is_none.false) in
    let found = link_found ps c.deref.result.now i c.deref.ensures.value c.in-Some-place_of_link.ensures.at in
    let l = c.in_ok-look_peer.ensures.looks in
    subst (λ (o : Option Logged). Looks s own layout holds o (work c.args.batch.now) (work c.look_peer.new.batch) c.args.base.now c.look_peer.new.base c.args.space.now c.look_peer.new.space c.args.walk.now c.look_peer.new.walk ps (set ps i q)) (sym is)
    (looks_found s own layout holds x at.0 (work c.args.batch.now) (work c.look_peer.new.batch) c.args.base.now c.look_peer.new.base c.args.space.now c.look_peer.new.space c.args.walk.now c.look_peer.new.walk ps i p q l.was l.caller at.1 found (link_is ps i p found (search rules)) l.role_is l.is (taken_none c.args.batch.now c.requires.alone.0) (gap_none c.args.batch.now c.requires.alone.1) l.behind)

pub returns-in_err-look_peer-clause-full : goal.returns-in_err-look_peer-clause-full
returns-in_err-look_peer-clause-full g c = λ full.
    let s = g.B.S.Space in
    let b = g.B.Storage in
    let ps = c.args.peers.now.items in
    let i = c.in-Some-place_of_link.i in
    let x = c.in-Some.logged in
    let is : c.args.logged.now ≡ Some x = c.in-Some.is in
    let at = leader x.master (c.is_none.ensures ∙ ap not c.if-is_none.false) in
    let found = link_found ps c.deref.result.now i c.deref.ensures.value c.in-Some-place_of_link.ensures.at in
    subst (λ (o : Option Logged). FullLinks s b.holds b.fills_since o c.args.base.now c.args.space.now c.look_peer.new.space c.args.walk.now ps) (sym is)
    (looks_full s b.own b.layout b.holds x at.0 (b.fills c.args.base.now c.args.space.now c.look_peer.new.space) (b.fills_since c.args.space.now c.look_peer.new.space) c.args.base.now c.args.space.now c.args.walk.now ps i c.index_mut-p.result.now at.1 found (link_is ps i c.index_mut-p.result.now found (search rules))
    (λ t d e f. g.met.B.Storage.fills_then c.args.base.now c.args.space.now c.look_peer.new.space d e f) (c.in_err-look_peer.ensures.full (search (rules, full))))

pub returns-clause-span : goal.returns-clause-span
returns-clause-span g c =
    let ps = c.args.peers.now.items in
    let i = c.in-Some-place_of_link.i in
    let l = c.in_ok-look_peer.ensures.looks in
    span_set c.args.span.now _ ps i c.look_peer.new.p (link_below ps i (link_found ps c.deref.result.now i c.deref.ensures.value c.in-Some-place_of_link.ensures.at)) c.add.ensures (calm_stirs c.look_peer.new.p (ap (λ (z : Peer). z.stirs) l.is)) c.requires.calm
