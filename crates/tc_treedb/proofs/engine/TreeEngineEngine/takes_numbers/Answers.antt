use Rattle.std.proofs.Common.{ap, not, sym}
use Rattle.tc_model.specs.Contents.{is_narrow}
use Rattle.tc_treedb.proofs.engine.TreeEngineEngine.takes_numbers.Goals as goal

pub returns : goal.returns
returns g c = λ files d h. sym (ap (λ x. not (is_narrow x)) h.is)
