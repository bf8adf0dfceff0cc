use Rattle.std.proofs.Common.{◌∙◌, sym, ap}
use Rattle.std.specs.FinMap as map
use Rattle.tc_base.specs.Maps.{Map}
use Rattle.tc_maps.proofs.Mapped.{get_key}
use Rattle.tc_memstores.proofs.rows.Rows.get.Goals as goal

pub returns : goal.returns
returns c = c.get.ensures.value ∙ sym (get_key c.self.inside.entries.entries c.args.key.now) ∙ ap (λ (m : Map). map.get m c.args.key.now) c.self.view_is
