use Rattle.std.proofs.Common.{◌∙◌, ap}
use Rattle.std.specs.Ordering.{nat_cmp}
use Rattle.std.specs.Cmp.{nat_cmp_total}
use Rattle.std.specs.FinMap.{nat_cmp-IsAntisymmetric}
use Rattle.std.specs.FinMap as map
use Rattle.tc_plain.proofs.Entries.{one_set}
use Rattle.tc_plain.proofs.maps.IdMap.set.Goals as goal

pub returns-clause-ok : goal.returns-clause-ok
returns-clause-ok c = one_set nat_cmp nat_cmp_total nat_cmp-IsAntisymmetric c.self.inside.pairs.entries c.insert.new.self.entries c.args.id c.args.value c.in_ok-insert.ensures.updates.0 ∙ ap (λ m. map.insert m c.args.id c.args.value) c.self.view_is
