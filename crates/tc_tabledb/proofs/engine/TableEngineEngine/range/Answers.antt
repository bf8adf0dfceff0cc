use Rattle.std.proofs.Common.{List, ap, subst, sym}
use Rattle.std.specs.Prelude.{option_map}
use Rattle.tc_engine.specs.Rows.{Adds, adds_nothing, text_rows}
use Rattle.tc_model.specs.Meaning.{ranged}
use Rattle.tc_tabledb.proofs.Lifting.{of_rows}
use Rattle.tc_tabledb.proofs.engine.TableEngineEngine.range.Goals as goal

pub returns-clause-rows : goal.returns-clause-rows
returns-clause-rows g c = of_rows g.S.Space _ _ _ (λ x. Adds c.args._into.now c.args._into.now (text_rows (ranged x c.args._from.now (option_map (λ k. k.now) c.args._to) c.args._most))) c.args.self.now c.args._space.now (λ rows indexes h. adds_nothing c.args._into.now)
