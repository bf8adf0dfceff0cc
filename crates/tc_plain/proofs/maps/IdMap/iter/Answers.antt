use Rattle.std.proofs.Common.{◌∙◌, sym, ap}
use Rattle.std.specs.Ordering.{nat_cmp}
use Rattle.std.specs.Cmp.{nat_cmp_total}
use Rattle.std.specs.FinMap.{nat_cmp-IsAntisymmetric}
use Rattle.std.specs.FinMap as map
use Rattle.tc_plain.proofs.Entries.{same_entries}
use Rattle.tc_plain.proofs.maps.IdMap.iter.Goals as goal

pub returns : goal.returns
returns c = c.iter.ensures.rest ∙ sym (same_entries nat_cmp nat_cmp_total nat_cmp-IsAntisymmetric c.self.inside.pairs.entries c.iter.ensures.ordered) ∙ ap (λ m. map.entries m) c.self.view_is
