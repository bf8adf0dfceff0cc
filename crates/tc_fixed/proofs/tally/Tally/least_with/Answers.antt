use Rattle.std.proofs.Common.{◌∙◌, arith}
use Rattle.tc_fixed.proofs.Tallied.{least_lower, least_only, least_kept}
use Rattle.tc_fixed.proofs.tally.Tally.least_with.Goals as goal

pub returns-then-self-eq0 : goal.returns-then-self-eq0
returns-then-self-eq0 c = λ m v counts small. least_only m c.args.id v (λ q held. (small.ids q held).0) (omega (arith, counts.least, c.if-self-eq0.true))

pub returns-then-id-self : goal.returns-then-id-self
returns-then-id-self c = λ m v counts small. least_lower m c.args.id v (omega (arith, counts.least, c.if-id-self.true))

pub returns : goal.returns
returns c = λ m v counts small. counts.least ∙ least_kept m c.args.id v (omega (arith, counts.least, c.if-self-eq0.false)) (omega (arith, counts.least, c.if-id-self.false))
