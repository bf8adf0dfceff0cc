use Rattle.std.proofs.Common.{◌∙◌, sym, ap}
use Rattle.std.specs.Ordering.{nat_cmp}
use Rattle.std.specs.Cmp.{nat_cmp_total}
use Rattle.std.specs.FinMap.{nat_cmp-IsAntisymmetric}
use Rattle.std.specs.FinMap as map
use Rattle.tc_plain.proofs.Entries.{get_key}
use Rattle.tc_plain.proofs.maps.IdMap.get.Goals as goal

pub returns : goal.returns
returns c = c.get.ensures.value ∙ sym (get_key nat_cmp nat_cmp_total nat_cmp-IsAntisymmetric c.self.inside.pairs.entries c.args.id) ∙ ap (λ m. map.get m c.args.id) c.self.view_is
