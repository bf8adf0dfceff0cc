use Rattle.std.proofs.Common.{◌∙◌, sym, ap}
use Rattle.std.specs.Ordering.{nat_cmp}
use Rattle.std.specs.Cmp.Lexicographic.{slice_cmp, nat_list_cmp_total}
use Rattle.std.proofs.lemmas.Map.Lookups.{exact_bytes}
use Rattle.std.specs.FinMap as map
use Rattle.tc_plain.proofs.Entries.{same_len}
use Rattle.tc_plain.proofs.maps.KeyMap.len.Goals as goal

pub returns : goal.returns
returns g c = c.len.ensures.len ∙ sym (same_len (slice_cmp nat_cmp) nat_list_cmp_total exact_bytes c.self.inside.pairs.entries c.len.ensures.ordered) ∙ ap (λ m. map.len m) c.self.view_is
