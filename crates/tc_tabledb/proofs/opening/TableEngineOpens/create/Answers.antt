use Rattle.tc_tabledb.proofs.Anew.{all_stood, none_stood}
use Rattle.tc_tabledb.proofs.opening.TableEngineOpens.create.Goals as goal

pub returns-clause-stood : goal.returns-clause-stood
returns-clause-stood g c = all_stood g.S.Space c.make.result c.args.space.now c.make.new.space c.requires.empty c.make.ensures.none

pub returns-clause-beside : goal.returns-clause-beside
returns-clause-beside g c = λ full. none_stood g.S.Space c.args.space.now c.requires.empty (c.make.ensures.beside full)
