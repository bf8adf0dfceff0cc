use Rattle.std.proofs.Common.{arith}
use Rattle.bt_tree.proofs.Prunings.{root_given, root_there, sink_ready, sinks_on, sunk_none, sunk_still}
use Rattle.bt_tree.proofs.tree.Tree.sink.Goals as goal

pub heir_alone-requires-clause-there : goal.heir_alone-requires-clause-there
heir_alone-requires-clause-there g c = root_there g.R.S.Space g.R.Records g.O.Order c.loop-self.self c.loop-self.space (λ lt. omega (arith, lt, c.loop-self-test.true)) c.loop-self.invariant.ready

pub returns-in_default-clause-sunk : goal.returns-in_default-clause-sunk
returns-in_default-clause-sunk g c =
    c.loop-self.invariant.rest c.heir_alone.new.self c.heir_alone.new.space
    (sunk_none g.R.S.Space g.R.Records g.O.Order c.loop-self.self c.heir_alone.new.self c.loop-self.space c.heir_alone.new.space c.heir_alone.ensures.peeks (rw c.in_default.is at c.in_ok-heir.ensures.heir))

pub drop_page-requires-clause-ready : goal.drop_page-requires-clause-ready
drop_page-requires-clause-ready g c =
    sink_ready g.R.S.Space g.R.Records g.O.Order c.loop-self.self c.heir_alone.new.self c.loop-self.space c.heir_alone.new.space (λ lt. omega (arith, lt, c.loop-self-test.true)) c.heir_alone.ensures.peeks c.in-Some.heir
    (rw c.in-Some.is at c.in_ok-heir.ensures.heir) c.loop-self.invariant.ready

pub drop_page-requires-clause-id : goal.drop_page-requires-clause-id
drop_page-requires-clause-id g c =
    root_given g.R.S.Space g.R.Records g.O.Order c.loop-self.self c.heir_alone.new.self c.loop-self.space c.heir_alone.new.space (λ lt. omega (arith, lt, c.loop-self-test.true)) c.heir_alone.ensures.peeks c.in-Some.heir
    (rw c.in-Some.is at c.in_ok-heir.ensures.heir) c.loop-self.invariant.ready

pub loop-self-preserved : goal.loop-self-preserved
loop-self-preserved g c =
    sinks_on g.R.S.Space g.R.Records g.O.Order c.loop-self.self c.heir_alone.new.self c.loop-self.space c.heir_alone.new.space (λ lt. omega (arith, lt, c.loop-self-test.true)) c.heir_alone.ensures.peeks c.in-Some.heir
    (rw c.in-Some.is at c.in_ok-heir.ensures.heir) c.drop_page.new.self c.lower.new.self c.drop_page.new.space c.in_ok-drop_page.ensures.out c.in_ok-drop_page.ensures.still c.lower.ensures c.args.self.now c.args.space.now c.loop-self.invariant

pub returns-clause-sunk : goal.returns-clause-sunk
returns-clause-sunk g c =
    c.loop-self.invariant.rest c.loop-self.self c.loop-self.space (sunk_still g.R.S.Space g.R.Records g.O.Order c.loop-self.self c.loop-self.space c.loop-self.invariant.ready.sound (omega (arith, c.loop-self-test.false)))
