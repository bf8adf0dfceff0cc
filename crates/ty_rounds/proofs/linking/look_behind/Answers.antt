use Rattle.std.proofs.Common.{rules, ◌≡◌, ap, subst}
use Rattle.ty_slave.specs.Lines.{Line, TakesUpdate, looks}
use Rattle.ty_slave.specs.declared.link.Step.{Step as Look}
use Rattle.ty_rounds.specs.Linking.{Deals, FullTaken, IsOver, Taken}
use Rattle.ty_rounds.specs.Works.{work}
use Rattle.ty_rounds.proofs.linking.look_behind.Goals as goal

pub returns-clause-looks : goal.returns-clause-looks
returns-clause-looks g c =
    let s = g.B.S.Space in
    let holds = g.B.Storage.holds in
    let d = c.in_ok-is_over.ensures in
    let is : c.in_ok-step.step ≡ (looks c.args.caller.now.link).0 = ap (λ (x : Look × Line). x.0) c.in_ok-step.ensures.ok in
    record {
      line = ap (λ (x : Look × Line). x.1) c.in_ok-step.ensures.ok;
      broken = c.in_ok-is_over.is_over;
      broken_is = search rules;
      deals = subst (λ (z : Look). Deals s holds z (work c.args.batch.now) (work c.deal.new.batch) c.in_ok-is_over.is_over c.args.base.now c.deal.new.base c.args.space.now c.deal.new.space c.args.walk.now c.deal.new.walk) is d.deals;
      taken = subst (λ (z : Look). Taken z (work c.args.batch.now) (work c.deal.new.batch)) is d.taken;
      takes = subst TakesUpdate is c.in_ok-step.ensures.takes;
      bad = subst (λ (z : Look). IsOver z c.in_ok-is_over.is_over) is d.bad;
      fewer = c.look_at.ensures.fewer;
      same = d.same;
      ready = d.ready;
      leaves = d.leaves;
    }

pub returns-in_err-is_over-clause-full : goal.returns-in_err-is_over-clause-full
returns-in_err-is_over-clause-full g c = λ full. subst (λ (z : Look). FullTaken g.B.S.Space g.B.Storage.holds (g.B.Storage.fills c.args.base.now c.args.space.now c.deal.new.space) z c.args.base.now c.args.space.now c.args.walk.now) (ap (λ (x : Look × Line). x.0) c.in_ok-step.ensures.ok) (c.in_err-is_over.ensures.full (search (rules, full)))
