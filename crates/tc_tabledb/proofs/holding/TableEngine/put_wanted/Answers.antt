use Rattle.std.proofs.lemmas.Result.{IfOk-weaker}
use Rattle.tc_tabledb.specs.Indexing.{given_index, indexed, unindexed}
use Rattle.tc_tabledb.proofs.Chosen.{full_as, makes_as, wanted_none, wanted_some}
use Rattle.tc_tabledb.proofs.Made.{set_none, set_some}
use Rattle.tc_tabledb.proofs.holding.TableEngine.put_wanted.Goals as goal

pub returns-in_default-clause-makes : goal.returns-in_default-clause-makes
returns-in_default-clause-makes g c = IfOk-weaker _ _ _ (λ done makes. makes_as g.S.Space _ _ _ (unindexed c.as_slice.result.now) (given_index c.args.name c.args.wanted) done c.args.self.now c.drop_index.new.self c.args.space.now c.drop_index.new.space (wanted_none c.args.name c.as_slice.result.now c.args.wanted c.as_slice.ensures c.in_default.is) makes) c.drop_index.ensures.makes

pub returns-in_default-clause-full : goal.returns-in_default-clause-full
returns-in_default-clause-full g c = λ full. full_as g.S.Space _ _ _ (unindexed c.as_slice.result.now) (given_index c.args.name c.args.wanted) c.args.self.now c.args.space.now c.drop_index.new.space (wanted_none c.args.name c.as_slice.result.now c.args.wanted c.as_slice.ensures c.in_default.is) (c.drop_index.ensures.full full)

pub returns-clause-makes : goal.returns-clause-makes
returns-clause-makes g c = IfOk-weaker _ _ _ (λ done makes. makes_as g.S.Space _ _ _ (indexed c.args.name c.in-Some.kind) (given_index c.args.name c.args.wanted) done c.args.self.now c.put_index.new.self c.args.space.now c.put_index.new.space (wanted_some c.args.name c.in-Some.kind c.args.wanted c.in-Some.is) makes) c.put_index.ensures.makes

pub returns-clause-full : goal.returns-clause-full
returns-clause-full g c = λ full. full_as g.S.Space _ _ _ (indexed c.args.name c.in-Some.kind) (given_index c.args.name c.args.wanted) c.args.self.now c.args.space.now c.put_index.new.space (wanted_some c.args.name c.in-Some.kind c.args.wanted c.in-Some.is) (c.put_index.ensures.full full)

pub returns-in_default-clause-comes : goal.returns-in_default-clause-comes
returns-in_default-clause-comes g c = set_none _ _ c.args.name c.args.self.now.table.sides.items c.drop_index.new.self.table.sides.items c.drop_index.result c.args.wanted c.in_default.is

pub returns-clause-comes : goal.returns-clause-comes
returns-clause-comes g c = set_some _ _ c.args.name c.args.self.now.table.sides.items c.put_index.new.self.table.sides.items c.put_index.result c.args.wanted c.in-Some.kind c.in-Some.is c.put_index.ensures.comes
