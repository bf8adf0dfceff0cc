use Rattle.std.proofs.Common.{refl}
use Rattle.tc_hash.proofs.Stored.{from_done, from_refused}
use Rattle.tc_hashdb.specs.Laying.{both_done}
use Rattle.tc_tabledb.proofs.Lifting.{ready_down, refuses_up}
use Rattle.tc_tabledb.proofs.Settled.{settle_others, settle_packs, settle_sound, settle_trims, settled_up}
use Rattle.tc_tabledb.proofs.engine.TableEngineStorage.settle.Goals as goal

pub settle-requires : goal.settle-requires
settle-requires g c = ready_down g.S.Space _ _ _ c.args.self.now c.args.space.now c.requires.ready

pub returns-clause-packs : goal.returns-clause-packs
returns-clause-packs g c = both_done c.settle.result c.settle.ensures.settles c.settle.ensures.packs (λ settles packs. settle_packs g.S.Space _ _ _ _ _ c.table_stores.ensures c.args.self.now (record c.args.self.now { table = c.settle.new.self }) c.args.space.now c.settle.new.space refl settles packs)

pub returns-clause-settled : goal.returns-clause-settled
returns-clause-settled g c = from_done c.settle.result c.settle.ensures.settles (λ settles. settled_up g.S.Space _ _ _ _ _ c.table_stores.ensures c.args.self.now (record c.args.self.now { table = c.settle.new.self }) c.args.space.now c.settle.new.space refl c.settle.ensures.stays settles)

pub returns-clause-trims : goal.returns-clause-trims
returns-clause-trims g c = from_done c.settle.result c.settle.ensures.settles (λ settles. settle_trims g.S.Space _ _ _ _ _ c.table_stores.ensures c.args.self.now (record c.args.self.now { table = c.settle.new.self }) c.args.space.now c.settle.new.space refl c.settle.ensures.stays settles)

pub returns-clause-sound : goal.returns-clause-sound
returns-clause-sound g c = from_done c.settle.result c.settle.ensures.settles (λ settles. settle_sound g.S.Space _ _ _ _ _ c.table_stores.ensures c.args.self.now (record c.args.self.now { table = c.settle.new.self }) c.args.space.now c.settle.new.space settles)

pub returns-clause-others : goal.returns-clause-others
returns-clause-others g c = from_done c.settle.result c.settle.ensures.settles (λ settles. settle_others g.S.Space _ _ _ _ _ c.table_stores.ensures c.args.self.now (record c.args.self.now { table = c.settle.new.self }) c.args.space.now c.settle.new.space c.requires.ready settles)

pub returns-clause-refused : goal.returns-clause-refused
returns-clause-refused g c = from_refused c.settle.result c.settle.ensures.refused (λ refused. refuses_up g.S.Space _ _ _ c.args.self.now (record c.args.self.now { table = c.settle.new.self }) c.args.space.now c.settle.new.space refl c.settle.ensures.stays refused)
