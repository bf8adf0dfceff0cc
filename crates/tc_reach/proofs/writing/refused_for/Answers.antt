use Rattle.tc_reach.proofs.writing.refused_for.Goals as goal

pub returns-in-Full-clause-full : goal.returns-in-Full-clause-full
returns-in-Full-clause-full g c = λ full. (c.in-Full.is, c.full_in.ensures.full full)
