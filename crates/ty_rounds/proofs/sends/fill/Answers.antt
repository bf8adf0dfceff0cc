use Rattle.std.proofs.Common.{rules, take}
use Rattle.ty_rounds.proofs.Filling.{fills, fills_few, puts_front}
use Rattle.ty_rounds.proofs.sends.fill.Goals as goal

pub returns-clause-fills : goal.returns-clause-fills
returns-clause-fills g c =
    fills g.S.Space c.args.logged.now c.args.space.now c.args.p.now c.in-Fed.feed c.next.new.self (take c.in_ok-n.n c.next.new.into) (puts_front g.S.Space c.args.logged.now c.args.space.now c.args.p.now c.in-Fed.feed c.next.new.self c.in_ok-n.n c.next.new.into c.in-Fed.is c.requires.quiet c.next.ensures.above c.in_ok-n.ensures.few c.in_ok-n.ensures.gives) _ (search rules)

pub returns-clause-few : goal.returns-clause-few
returns-clause-few g c =
    fills_few g.S.Space c.args.logged.now c.args.space.now c.args.p.now c.in-Fed.feed c.next.new.self (take c.in_ok-n.n c.next.new.into) (puts_front g.S.Space c.args.logged.now c.args.space.now c.args.p.now c.in-Fed.feed c.next.new.self c.in_ok-n.n c.next.new.into c.in-Fed.is c.requires.quiet c.next.ensures.above c.in_ok-n.ensures.few c.in_ok-n.ensures.gives) _ (search rules)
