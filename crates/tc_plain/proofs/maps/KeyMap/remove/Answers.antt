use Rattle.std.proofs.Common.{◌∙◌, ap}
use Rattle.std.specs.Ordering.{nat_cmp}
use Rattle.std.specs.Cmp.Lexicographic.{slice_cmp, nat_list_cmp_total}
use Rattle.std.proofs.lemmas.Map.Lookups.{exact_bytes}
use Rattle.std.specs.FinMap as map
use Rattle.tc_plain.proofs.Entries.{one_removed}
use Rattle.tc_plain.proofs.maps.KeyMap.remove.Goals as goal

pub returns : goal.returns
returns g c = one_removed (slice_cmp nat_cmp) nat_list_cmp_total exact_bytes c.self.inside.pairs.entries c.remove.new.self.entries c.args.key.now c.remove.ensures.updates.0 ∙ ap (λ m. map.remove m c.args.key.now) c.self.view_is
