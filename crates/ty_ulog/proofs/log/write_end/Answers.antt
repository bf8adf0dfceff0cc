use Rattle.std.proofs.Common.{◌∙◌}
use Rattle.ty_ulog.proofs.Noting.{wrote_end}
use Rattle.ty_ulog.proofs.log.write_end.Goals as goal

pub returns-clause-wrote : goal.returns-clause-wrote
returns-clause-wrote g c = λ t. (c.in_ok-write.ensures.wrote t).here ∙ wrote_end _ _ _ (c.requires.end t)

pub returns-clause-others : goal.returns-clause-others
returns-clause-others g c = record { same = λ t h other. (c.in_ok-write.ensures.wrote t).others h other }
