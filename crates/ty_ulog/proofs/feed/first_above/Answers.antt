use Rattle.std.proofs.Common.{refl, arith}
use Rattle.std.specs.Prelude.{None}
use Rattle.ty_ulog.proofs.Feeding.{found_first, found_none}
use Rattle.ty_ulog.proofs.feed.first_above.Goals as goal

pub returns-clause-found : goal.returns-clause-found
returns-clause-found g c = λ rs m. found_first _ c.args.log.now (g.S.Space.now c.args.space.now 2) rs c.in_ok-at.at refl m.1 (omega arith) (c.in_ok-at.ensures.inside m.0) (c.in_ok-at.ensures.rest rs m)

pub returns-then-last-above-clause-found : goal.returns-then-last-above-clause-found
returns-then-last-above-clause-found g c = λ rs m.
    found_none (record { above = c.args.above; place = None }) c.args.log.now (g.S.Space.now c.args.space.now 2) rs refl m.1 (omega (arith, c.last.ensures, c.if-last-above.true))
