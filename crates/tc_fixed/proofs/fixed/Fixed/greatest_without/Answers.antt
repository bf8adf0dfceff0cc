use Rattle.std.proofs.Common.{◌∙◌, ◌⊎◌, inl, inr, ◌≤◌, arith}
use Rattle.std.proofs.lemmas.Bool.{cases_lt}
use Rattle.tc_model.specs.Arrays.{least}
use Rattle.tc_fixed.proofs.Ended.{greatest_other, greatest_next}
use Rattle.tc_fixed.proofs.fixed.Fixed.greatest_without.Goals as goal

pub returns-then-id-self-clause-value : goal.returns-then-id-self-clause-value
returns-then-id-self-clause-value g c = λ m means held. means.1.counts.greatest ∙ greatest_other m c.args.id held (λ same. omega (arith, c.if-id-self.true, same, means.1.counts.greatest))

pub returns-clause-value : goal.returns-clause-value
returns-clause-value g c = λ m means held.
    let h = means.1 in
    let low : (c.max-low.result ≤ least m) ⊎ (c.max-low.result ≤ 1) = elim (cases_lt 0 (least m)) [
      | inl more ↦ inl (omega (arith, more, c.max-low.ensures, h.counts.least))
      | inr none ↦ inr (omega (arith, none, c.max-low.ensures, h.counts.least))
    ] in
    greatest_next m c.args.id c.max-low.result c.in_ok-found.found held c.requires.id.0 (omega (arith, c.if-id-self.false, h.counts.greatest)) low (λ q there. (h.fills.map.within q there).0)
    (c.in_ok-found.ensures.last means.0 m (λ k one le. h.fills.map.cells k one (omega (arith, le, c.requires.id.1))))
