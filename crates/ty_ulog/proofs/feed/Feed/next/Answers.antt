use Rattle.std.proofs.Common.{◌-◌, ◌≤◌, ◌∙◌, ℕ, List, length, take, drop, ap, subst, refl, arith}
use Rattle.std.specs.Prelude.{Option, min}
use Rattle.ty_ulog.specs.Feeds.{room, IsFound}
use Rattle.ty_ulog.proofs.Feeding.{counts_more, given, given_none}
use Rattle.ty_ulog.proofs.feed.Feed.next.Goals as goal

pub returns-in_default-clause-gives : goal.returns-in_default-clause-gives
returns-in_default-clause-gives g c = λ rs m. given_none c.args.self.now rs c.args.into.now (subst (λ (o : Option ℕ). IsFound c.args.self.now rs o) c.in_default.is (c.in_ok-at.ensures.found rs m))

pub returns-clause-gives : goal.returns-clause-gives
returns-clause-gives g c = λ rs m.
    let t = m.0 in
    let same = c.find.ensures.reads.files t 2 in
    let found = subst (λ (o : Option ℕ). IsFound c.args.self.now rs o) c.in-Some.is (c.in_ok-at.ensures.found rs m) in
    given c.args.self.now _ (g.S.Space.now c.args.space.now 2) rs c.args.log.now c.in-Some.at c.in_ok-n.n _ found m.1 refl refl
    (c.in_ok-n.ensures.count t ∙ ap (λ (l : List ℕ). min 4096 (length l - c.in-Some.at)) same) (c.in_ok-n.ensures.bytes t ∙ ap (λ (l : List ℕ). take c.in_ok-n.n (drop c.in-Some.at l)) same)

pub returns-clause-few : goal.returns-clause-few
returns-clause-few g c =
    let few = c.in_ok-n.ensures.few in
    let falls = subst (λ (o : Option ℕ). room o ≤ room c.args.self.now.place) c.in-Some.is c.in_ok-at.ensures.falls in
    (few.0, omega (arith, falls, few.1))

pub returns-in_err-at-clause-counted : goal.returns-in_err-at-clause-counted
returns-in_err-at-clause-counted g c = counts_more g.S.Space c.args.log.now c.args.self.now.place c.args.space.now c.find.new.space _ 4096 c.find.ensures.counted (omega arith)

pub returns-in_default-clause-counted : goal.returns-in_default-clause-counted
returns-in_default-clause-counted g c = counts_more g.S.Space c.args.log.now c.args.self.now.place c.args.space.now c.find.new.space _ 4096 c.find.ensures.counted (omega arith)

pub returns-in_err-n-clause-counted : goal.returns-in_err-n-clause-counted
returns-in_err-n-clause-counted g c = counts_more g.S.Space c.args.log.now c.args.self.now.place c.args.space.now c.find.new.space _ 4096 c.find.ensures.counted (c.next_bytes.ensures.counted)

pub returns-clause-counted : goal.returns-clause-counted
returns-clause-counted g c = counts_more g.S.Space c.args.log.now c.args.self.now.place c.args.space.now c.find.new.space _ 4096 c.find.ensures.counted (c.next_bytes.ensures.counted)
