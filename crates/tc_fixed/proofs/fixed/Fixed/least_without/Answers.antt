use Rattle.std.proofs.Common.{◌∙◌, arith}
use Rattle.tc_fixed.proofs.Ended.{least_other, least_next}
use Rattle.tc_fixed.proofs.fixed.Fixed.least_without.Goals as goal

pub returns-then-id-self-clause-value : goal.returns-then-id-self-clause-value
returns-then-id-self-clause-value g c = λ m means held. means.1.counts.least ∙ least_other m c.args.id held (λ same. omega (arith, c.if-id-self.true, same, means.1.counts.least))

pub returns-clause-value : goal.returns-clause-value
returns-clause-value g c = λ m means held.
    let h = means.1 in
    least_next m c.args.id c.args.self.now.tally.greatest c.in_ok-found.found held (omega (arith, c.if-id-self.false, h.counts.least)) h.counts.greatest (c.in_ok-found.ensures.first means.0 m h.fills.map.cells)
