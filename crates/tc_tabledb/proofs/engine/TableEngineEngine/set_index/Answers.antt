use Rattle.std.proofs.Common.{ℕ, List, ap}
use Rattle.std.proofs.lemmas.Result.{IfOk-weaker}
use Rattle.tc_engine.specs.Changes.{index_set}
use Rattle.tc_tabledb.proofs.Chosen.{full_as, makes_as}
use Rattle.tc_tabledb.proofs.engine.TableEngineEngine.set_index.Goals as goal

pub returns-clause-makes : goal.returns-clause-makes
returns-clause-makes g c = IfOk-weaker _ _ _ (λ done makes. makes_as g.S.Space _ _ _ (index_set c.args.column c.as_slice.result.now) (index_set c.args.column c.args.code.now) done c.args.self.now c.index_by.new.self c.args.space.now c.index_by.new.space (λ x. ap (λ (k : List ℕ). index_set c.args.column k x) c.as_slice.ensures) makes) c.index_by.ensures.makes

pub returns-clause-full : goal.returns-clause-full
returns-clause-full g c = λ full. full_as g.S.Space _ _ _ (index_set c.args.column c.as_slice.result.now) (index_set c.args.column c.args.code.now) c.args.self.now c.args.space.now c.index_by.new.space (λ x. ap (λ (k : List ℕ). index_set c.args.column k x) c.as_slice.ensures) (c.index_by.ensures.full full)
