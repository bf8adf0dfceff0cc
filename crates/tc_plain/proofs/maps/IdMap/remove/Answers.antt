use Rattle.std.proofs.Common.{◌∙◌, ap}
use Rattle.std.specs.Ordering.{nat_cmp}
use Rattle.std.specs.Cmp.{nat_cmp_total}
use Rattle.std.specs.FinMap.{nat_cmp-IsAntisymmetric}
use Rattle.std.specs.FinMap as map
use Rattle.tc_plain.proofs.Entries.{one_removed}
use Rattle.tc_plain.proofs.maps.IdMap.remove.Goals as goal

pub returns : goal.returns
returns c = one_removed nat_cmp nat_cmp_total nat_cmp-IsAntisymmetric c.self.inside.pairs.entries c.remove.new.self.entries c.args.id c.remove.ensures.updates.0 ∙ ap (λ m. map.remove m c.args.id) c.self.view_is
