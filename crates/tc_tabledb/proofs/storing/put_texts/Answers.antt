use Rattle.std.specs.FinMap.{entries}
use Rattle.tc_space.specs.Frames.{keeps_then}
use Rattle.tc_tabledb.proofs.Putting.{given_texts}
use Rattle.tc_tabledb.proofs.storing.put_texts.Goals as goal

pub returns-in-Err-clause-full : goal.returns-in-Err-clause-full
returns-in-Err-clause-full g c = λ is. given_texts g.R.S.Space g.R.Records g.L.Multi g.D.Multi g.L.O.Order.cmp g.D.O.Order.cmp (entries c.args.texts.now) c.args.table.now c.args.space.now c.put_some.new.space c.give_up.new.space (c.in-Err.ensures.full is) c.give_up.ensures

pub returns-in-Err-clause-keeps : goal.returns-in-Err-clause-keeps
returns-in-Err-clause-keeps g c = keeps_then g.R.S.Space c.args.space.now c.put_some.new.space c.give_up.new.space c.put_some.ensures.keeps c.give_up.ensures.keeps
