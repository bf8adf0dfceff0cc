use Rattle.std.proofs.Common.{◌∙◌, ap}
use Rattle.std.specs.Ordering.{nat_cmp}
use Rattle.std.specs.Cmp.Lexicographic.{slice_cmp, nat_list_cmp_total}
use Rattle.std.proofs.lemmas.Map.Lookups.{exact_bytes}
use Rattle.std.specs.FinMap as map
use Rattle.tc_plain.proofs.Entries.{one_set}
use Rattle.tc_plain.proofs.maps.KeyMap.set.Goals as goal

pub returns-clause-ok : goal.returns-clause-ok
returns-clause-ok g c = one_set (slice_cmp nat_cmp) nat_list_cmp_total exact_bytes c.self.inside.pairs.entries c.insert.new.self.entries c.args.key c.args.value c.in_ok-insert.ensures.updates.0 ∙ ap (λ m. map.insert m c.args.key c.args.value) c.self.view_is
