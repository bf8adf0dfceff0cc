use Rattle.std.proofs.Common.{◌∙◌, sym, ap}
use Rattle.tc_base.specs.Lists.{values}
use Rattle.tc_maps.specs.Entries.{values_at}
use Rattle.tc_maps.proofs.Seen.{values_seen}
use Rattle.tc_maps.proofs.multimap.Multimap.values.Goals as goal

pub returns : goal.returns
returns c = ap values_at c.get.ensures.value ∙ sym (values_seen _ _ c.self.invariant.sorted) ∙ ap (λ ps. values ps c.args.key.now) c.self.view_is
