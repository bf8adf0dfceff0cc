use Rattle.std.proofs.Common.{refl}
use Rattle.tc_engine.specs.Changes.{pushed}
use Rattle.tc_tabledb.proofs.Lifting.{makes_none}
use Rattle.tc_tabledb.proofs.engine.TableEngineEngine.push.Goals as goal

pub returns-clause-makes : goal.returns-clause-makes
returns-clause-makes g c = makes_none g.S.Space _ _ _ c.table_stores.ensures.store (pushed c.args._key c.args._value) c.args.self.now c.args._space.now c.requires.sound (λ rows indexes. refl)
