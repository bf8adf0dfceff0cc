use Rattle.tc_fakes.proofs.playing.choose.Goals as goal

pub returns-in-Give-clause-may : goal.returns-in-Give-clause-may
returns-in-Give-clause-may c = c.in-Give.ensures.may c.args.busy
