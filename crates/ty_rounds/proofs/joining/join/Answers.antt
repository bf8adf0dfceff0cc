use Rattle.std.proofs.Common.{rules, ◌≡◌, ◌∙◌, ℕ, map, not, ap, subst, sym, arith}
use Rattle.std.specs.Prelude.{None, Option, Some}
use Rattle.ty_rounds.specs.Joining.{all_held, with_held}
use Rattle.ty_rounds.specs.Ready.{LinksMay}
use Rattle.ty_rounds.specs.declared.logging.Logged.{Logged}
use Rattle.ty_rounds.proofs.JoinLaws.{front_begins, front_ends, front_told, none_given, none_linked}
use Rattle.ty_rounds.proofs.joining.join.Goals as goal

pub returns-in_default : goal.returns-in_default
returns-in_default c = let is : c.args.logged.now ≡ None = search rules in record { held = ap (λ (l : Option Logged). all_held l c.args.peers.now.items) (sym is) }

pub returns-then-is_none : goal.returns-then-is_none
returns-then-is_none c =
    let x = c.in-Some.logged in
    let is : c.args.logged.now ≡ Some x = c.in-Some.is in
    let unled : x.master ≡ None = none_given x.master (c.is_none.ensures ∙ ap not c.if-is_none.true) in
    record { held = none_linked x c.args.peers.now.items unled (subst (λ (l : Option Logged). LinksMay l c.args.peers.now.items) is c.requires.may) ∙ ap (λ (l : Option Logged). all_held l c.args.peers.now.items) (sym is) }

pub loop-i-init : goal.loop-i-init
loop-i-init c = record { told = front_begins c.last-last.result c.args.peers.now.items }

pub loop-i-preserved : goal.loop-i-preserved
loop-i-preserved c = record { told = front_told _ c.args.peers.now.items c.loop-i.peers.items c.loop-i.i _ c.index_mut-p.result.now c.hold.new.p (omega arith) (search rules) c.loop-i.invariant.told (search rules) c.hold.ensures.held }

pub returns : goal.returns
returns c =
    let x = c.in-Some.logged in
    let is : c.args.logged.now ≡ Some x = c.in-Some.is in
    record { held = c.loop-i.invariant.told ∙ front_ends _ c.args.peers.now.items c.loop-i.i (search rules) ∙ ap (λ (n : ℕ). map (with_held n) c.args.peers.now.items) c.last-last.ensures ∙ ap (λ (l : Option Logged). all_held l c.args.peers.now.items) (sym is) }
