use Rattle.std.proofs.Common.{arith}
use Rattle.tc_fixed.proofs.Held.{none_at_zero, none_low}
use Rattle.tc_fixed.proofs.fixed.Fixed.is_outside.Goals as goal

pub returns-then-id-eq0-clause-outside : goal.returns-then-id-eq0-clause-outside
returns-then-id-eq0-clause-outside g c = λ bytes m h is. none_at_zero _ _ _ m bytes c.args.id h (omega (arith, c.if-id-eq0.true))

pub returns-then-id-self-clause-outside : goal.returns-then-id-self-clause-outside
returns-then-id-self-clause-outside g c = λ bytes m h is. none_low _ _ _ m bytes c.args.id h c.if-id-self.true
