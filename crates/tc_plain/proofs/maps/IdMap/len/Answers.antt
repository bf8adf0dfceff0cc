use Rattle.std.proofs.Common.{◌∙◌, sym, ap}
use Rattle.std.specs.Ordering.{nat_cmp}
use Rattle.std.specs.Cmp.{nat_cmp_total}
use Rattle.std.specs.FinMap.{nat_cmp-IsAntisymmetric}
use Rattle.std.specs.FinMap as map
use Rattle.tc_plain.proofs.Entries.{same_len}
use Rattle.tc_plain.proofs.maps.IdMap.len.Goals as goal

pub returns : goal.returns
returns c = c.len.ensures.len ∙ sym (same_len nat_cmp nat_cmp_total nat_cmp-IsAntisymmetric c.self.inside.pairs.entries c.len.ensures.ordered) ∙ ap (λ m. map.len m) c.self.view_is
