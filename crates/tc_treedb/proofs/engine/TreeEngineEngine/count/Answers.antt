use Rattle.std.proofs.Common.{◌∙◌, ap, sym}
use Rattle.tc_model.specs.Stores.{count}
use Rattle.tc_treedb.proofs.engine.TreeEngineEngine.count.Goals as goal

pub returns : goal.returns
returns g c = λ files d h. c.count.ensures (files 0) h.held h.holds_it ∙ sym (ap count h.is)
