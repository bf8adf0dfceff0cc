use Rattle.std.proofs.Common.{ap, sym}
use Rattle.tc_model.specs.Contents.{kind_of}
use Rattle.tc_treedb.proofs.engine.TreeEngineStorage.kind.Goals as goal

pub returns : goal.returns
returns g c = λ files d h. sym (ap kind_of h.is)
