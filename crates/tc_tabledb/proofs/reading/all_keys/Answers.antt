use Rattle.std.proofs.Common.{◌∙◌}
use Rattle.tc_tabledb.proofs.reading.all_keys.Goals as goal

pub returns-clause-keys : goal.returns-clause-keys
returns-clause-keys g c = λ rows h. c.in_ok-found.ensures ∙ c.in_ok-all.ensures.value rows h
