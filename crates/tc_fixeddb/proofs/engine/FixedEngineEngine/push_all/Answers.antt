use Rattle.std.proofs.Common.{arith}
use Rattle.tc_fixeddb.proofs.Asked.{push_no, push_some}
use Rattle.tc_fixeddb.proofs.engine.FixedEngineEngine.push_all.Goals as goal

pub returns-then-len-gt0-clause-makes : goal.returns-then-len-gt0-clause-makes
returns-then-len-gt0-clause-makes g c = push_some g.S.Space _ _ c.args.pairs c.requires.sound (omega (arith, c.len.ensures, c.if-len-gt0.true))

pub returns-clause-makes : goal.returns-clause-makes
returns-clause-makes g c = push_no g.S.Space _ _ c.args.pairs c.requires.sound (omega (arith, c.len.ensures, c.if-len-gt0.false))
