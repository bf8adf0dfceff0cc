use Rattle.std.proofs.Common.{◌∙◌, sym, ap}
use Rattle.std.specs.Ordering.{nat_cmp}
use Rattle.std.specs.Cmp.Lexicographic.{slice_cmp, nat_list_cmp_total}
use Rattle.std.proofs.lemmas.Map.Lookups.{exact_bytes}
use Rattle.std.specs.FinMap as map
use Rattle.tc_plain.proofs.Entries.{same_entries}
use Rattle.tc_plain.proofs.maps.KeyMap.iter.Goals as goal

pub returns : goal.returns
returns g c = c.iter.ensures.rest ∙ sym (same_entries (slice_cmp nat_cmp) nat_list_cmp_total exact_bytes c.self.inside.pairs.entries c.iter.ensures.ordered) ∙ ap (λ m. map.entries m) c.self.view_is
