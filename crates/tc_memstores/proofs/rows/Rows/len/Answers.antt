use Rattle.std.proofs.Common.{◌∙◌, sym, ap}
use Rattle.std.specs.FinMap as map
use Rattle.tc_base.specs.Maps.{Map}
use Rattle.tc_maps.proofs.Mapped.{same_len}
use Rattle.tc_memstores.proofs.rows.Rows.len.Goals as goal

pub returns : goal.returns
returns c = c.len.ensures.len ∙ sym (same_len c.self.inside.entries.entries c.len.ensures.ordered) ∙ ap (λ (m : Map). map.len m) c.self.view_is
