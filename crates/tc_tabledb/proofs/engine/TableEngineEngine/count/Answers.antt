use Rattle.std.proofs.Common.{◌∙◌, ap, sym}
use Rattle.tc_model.specs.Stores.{count}
use Rattle.tc_table.proofs.Spelled.{len_same}
use Rattle.tc_tabledb.proofs.engine.TableEngineEngine.count.Goals as goal

pub returns : goal.returns
returns g c = λ files x h. c.count.ensures _ h.held.store h.held.held ∙ (len_same h.held.store h.rows h.held.spelled ∙ sym (ap count h.is))
