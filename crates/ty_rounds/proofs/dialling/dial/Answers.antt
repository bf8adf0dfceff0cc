use Rattle.std.proofs.Common.{rules, ◌≡◌, ◌∙◌, Bool, true, ap, subst, sym}
use Rattle.std.specs.Prelude.{IfErr, OnOk, Option, Some}
use Rattle.ty_rounds.specs.Dialling.{DialErr}
use Rattle.ty_rounds.specs.Peers.{has_link}
use Rattle.ty_rounds.specs.Turns.{Dials}
use Rattle.ty_rounds.specs.declared.logging.Logged.{Logged}
use Rattle.ty_rounds.proofs.DialLaws.{dials_none, linked, not_yet, unlogged}
use Rattle.ty_rounds.proofs.dialling.dial.Goals as goal

pub returns-in_default-clause-told : goal.returns-in_default-clause-told
returns-in_default-clause-told g c = dials_none g.W.Wire c.args.logged.now c.args.due c.args.wire.now c.args.peers.now.items (unlogged (search rules))

pub returns-then-not-due-clause-told : goal.returns-then-not-due-clause-told
returns-then-not-due-clause-told g c = dials_none g.W.Wire c.args.logged.now c.args.due c.args.wire.now c.args.peers.now.items (not_yet (search rules))

pub returns-then-has_link-clause-told : goal.returns-then-has_link-clause-told
returns-then-has_link-clause-told g c = dials_none g.W.Wire c.args.logged.now c.args.due c.args.wire.now c.args.peers.now.items (linked (ap has_link (sym c.deref.ensures.value) ∙ sym c.has_link.ensures ∙ c.if-has_link.true))

pub dial_master-requires-clause-may : goal.dial_master-requires-clause-may
dial_master-requires-clause-may g c = ap has_link (sym c.deref.ensures.value) ∙ sym c.has_link.ensures ∙ c.if-has_link.false

pub returns-clause-told : goal.returns-clause-told
returns-clause-told g c =
    let due : c.args.due ≡ true = search rules in
    let is : c.args.logged.now ≡ Some c.in-Some.logged = c.in-Some.is in
    subst (λ (l : Option Logged). OnOk c.dial_master.result (Dials g.W.Wire l c.args.due c.args.wire.now c.dial_master.new.wire c.args.peers.now.items c.dial_master.new.peers.items)) (sym is)
    (subst (λ (d : Bool). OnOk c.dial_master.result (Dials g.W.Wire (Some c.in-Some.logged) d c.args.wire.now c.dial_master.new.wire c.args.peers.now.items c.dial_master.new.peers.items)) (sym due) c.dial_master.ensures.told)

pub returns-clause-err : goal.returns-clause-err
returns-clause-err g c =
    let due : c.args.due ≡ true = search rules in
    let is : c.args.logged.now ≡ Some c.in-Some.logged = c.in-Some.is in
    subst (λ (l : Option Logged). IfErr c.dial_master.result (λ e. DialErr g.W.Wire l c.args.due c.args.wire.now c.dial_master.new.wire c.args.peers.now.items e)) (sym is)
    (subst (λ (d : Bool). IfErr c.dial_master.result (λ e. DialErr g.W.Wire (Some c.in-Some.logged) d c.args.wire.now c.dial_master.new.wire c.args.peers.now.items e)) (sym due) c.dial_master.ensures.err)
