use Rattle.std.proofs.Common.{ap, not, sym}
use Rattle.tc_model.specs.Contents.{is_narrow}
use Rattle.tc_tabledb.proofs.engine.TableEngineEngine.takes_numbers.Goals as goal

pub returns : goal.returns
returns g c = λ files x h. sym (ap (λ y. not (is_narrow y)) h.is)
