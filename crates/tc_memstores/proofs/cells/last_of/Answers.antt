use Rattle.std.proofs.Common.{◌∙◌, sym}
use Rattle.tc_memstores.proofs.Overlaid.{at_last, beside_last}
use Rattle.tc_memstores.proofs.cells.last_of.Goals as goal

pub returns : goal.returns
returns c = λ m. at_last c.args.last.now c.in-Some.last m c.args.key.now c.in-Some.is (c.is_key.ensures.0 c.if-not-is_key.false)

pub returns-then-not-is_key : goal.returns-then-not-is_key
returns-then-not-is_key c = λ m. beside_last c.args.last.now c.in-Some.last m c.args.key.now c.in-Some.is (λ e. let bad = sym c.if-not-is_key.true ∙ c.is_key.ensures.1 e in cc)
