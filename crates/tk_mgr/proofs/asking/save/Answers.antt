use Rattle.tk_mgr.proofs.asking.save.Goals as goal

pub returns-in-Ok-clause-packs : goal.returns-in-Ok-clause-packs
returns-in-Ok-clause-packs g c = c.in-Ok.ensures.packs

pub returns-in-Ok-clause-laid : goal.returns-in-Ok-clause-laid
returns-in-Ok-clause-laid g c = c.in-Ok.ensures.laid
