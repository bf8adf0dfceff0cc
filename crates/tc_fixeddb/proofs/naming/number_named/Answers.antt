use Rattle.std.proofs.Common.{◌∙◌}
use Rattle.tc_fixeddb.proofs.NoWords.{digits_name}
use Rattle.tc_fixeddb.proofs.naming.number_named.Goals as goal

pub returns-in-Some : goal.returns-in-Some
returns-in-Some c = c.in-Some.ensures.1 ∙ digits_name c.args.least c.args.greatest c.args.key.now c.in-Some.ensures.0
