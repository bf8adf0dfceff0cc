use Rattle.std.proofs.Common.{arith}
use Rattle.tc_hashdb.proofs.Asked.{push_some}
use Rattle.tc_hashdb.proofs.engine.HashEngineEngine.push_all.Goals as goal

pub returns-then-len-gt0-clause-makes : goal.returns-then-len-gt0-clause-makes
returns-then-len-gt0-clause-makes g c = push_some g.S.Space _ _ c.args.pairs c.requires.sound (omega (arith, c.len.ensures, c.if-len-gt0.true))
