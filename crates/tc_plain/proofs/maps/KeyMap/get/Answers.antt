use Rattle.std.proofs.Common.{◌∙◌, sym, ap}
use Rattle.std.specs.Ordering.{nat_cmp}
use Rattle.std.specs.Cmp.Lexicographic.{slice_cmp, nat_list_cmp_total}
use Rattle.std.proofs.lemmas.Map.Lookups.{exact_bytes}
use Rattle.std.specs.FinMap as map
use Rattle.tc_plain.proofs.Entries.{get_key}
use Rattle.tc_plain.proofs.maps.KeyMap.get.Goals as goal

pub returns : goal.returns
returns g c = c.get.ensures.value ∙ sym (get_key (slice_cmp nat_cmp) nat_list_cmp_total exact_bytes c.self.inside.pairs.entries c.args.key.now) ∙ ap (λ m. map.get m c.args.key.now) c.self.view_is
