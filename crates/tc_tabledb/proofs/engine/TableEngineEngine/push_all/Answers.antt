use Rattle.std.proofs.Common.{arith}
use Rattle.tc_engine.specs.Changes.{all_pushed}
use Rattle.tc_tabledb.proofs.Asked.{pushes_no, pushes_none}
use Rattle.tc_tabledb.proofs.Lifting.{makes_none, makes_same}
use Rattle.tc_tabledb.proofs.engine.TableEngineEngine.push_all.Goals as goal

pub returns-then-len-gt0-clause-makes : goal.returns-then-len-gt0-clause-makes
returns-then-len-gt0-clause-makes g c = makes_none g.S.Space _ _ _ c.table_stores.ensures.store (all_pushed c.args.pairs) c.args.self.now c.args._space.now c.requires.sound (pushes_none c.args.pairs (omega (arith, c.len.ensures, c.if-len-gt0.true)))

pub returns-clause-makes : goal.returns-clause-makes
returns-clause-makes g c = makes_same g.S.Space _ _ _ c.table_stores.ensures.store (all_pushed c.args.pairs) c.args.self.now c.args._space.now c.requires.sound (pushes_no c.args.pairs (omega (arith, c.len.ensures, c.if-len-gt0.false)))
