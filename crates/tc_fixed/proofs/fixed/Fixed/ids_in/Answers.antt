use Rattle.std.proofs.Common.{◌∙◌, ◌++◌, List, ℕ, ap, arith}
use Rattle.tc_fixed.specs.Listing.{first_of}
use Rattle.tc_fixed.proofs.Listed.{ids_within}
use Rattle.tc_fixed.proofs.fixed.Fixed.ids_in.Goals as goal

pub returns-clause-listed : goal.returns-clause-listed
returns-clause-listed g c = λ m means.
    let h = means.1 in
    c.in_ok-list.ensures.listed means.0 m (λ id some le. h.fills.map.cells id some (omega (arith, le, c.min-high.ensures)))
    ∙ ap (λ (l : List ℕ). c.args.into.now.items ++ first_of c.args.most l) (ids_within m c.max-low.result c.min-high.result c.args.from c.args.to (λ q held. (h.fills.map.within q held).0)
    (omega (arith, c.max.ensures, c.max-low.ensures, h.counts.least)) (omega (arith, c.min-high.ensures, h.counts.greatest)))
