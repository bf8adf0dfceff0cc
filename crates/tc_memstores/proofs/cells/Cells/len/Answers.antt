use Rattle.std.proofs.Common.{◌∙◌, sym, ap}
use Rattle.std.specs.FinMap as map
use Rattle.tc_base.specs.Maps.{Map}
use Rattle.tc_memstores.proofs.Overlaid.{held_len}
use Rattle.tc_memstores.proofs.cells.Cells.len.Goals as goal

pub returns : goal.returns
returns c = c.len.ensures ∙ sym (held_len c.self.inside.last c.self.inside.rows c.self.invariant) ∙ ap (λ (m : Map). map.len m) c.self.view_is
