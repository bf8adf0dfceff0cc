use Rattle.std.proofs.Common.{refl}
use Rattle.tc_hash.proofs.Stored.{from_done}
use Rattle.tc_hashdb.specs.Laying.{both_done}
use Rattle.tc_tabledb.proofs.Lifting.{ready_down}
use Rattle.tc_tabledb.proofs.Settled.{both_refused, pack_formed, pack_full, pack_others, pack_refused, pack_sound, pack_tight, pack_up}
use Rattle.tc_tabledb.proofs.engine.TableEngineStorage.pack.Goals as goal

pub pack-requires : goal.pack-requires
pack-requires g c = ready_down g.S.Space _ _ _ c.args.self.now c.args.space.now c.requires.ready

pub returns-clause-tight : goal.returns-clause-tight
returns-clause-tight g c = from_done c.pack.result c.pack.ensures.packs (λ packs. pack_tight g.S.Space _ _ _ _ _ c.table_stores.ensures c.args.self.now (record c.args.self.now { table = c.pack.new.self }) c.args.space.now c.pack.new.space refl c.args.form packs)

pub returns-clause-packed : goal.returns-clause-packed
returns-clause-packed g c = both_done c.pack.result c.pack.ensures.packs c.pack.ensures.stays (λ packs stays. pack_up g.S.Space _ _ _ _ _ c.table_stores.ensures c.args.form c.args.self.now (record c.args.self.now { table = c.pack.new.self }) c.args.space.now c.pack.new.space refl c.pack.ensures.formed.file c.pack.ensures.formed.sort_same stays packs)

pub returns-clause-formed : goal.returns-clause-formed
returns-clause-formed g c = pack_formed g.S.Space _ _ _ _ _ c.table_stores.ensures c.pack.result c.args.form c.args.self.now (record c.args.self.now { table = c.pack.new.self }) c.args.space.now c.pack.new.space refl c.pack.ensures.formed.file c.pack.ensures.formed.sort_same c.pack.ensures.packs c.pack.ensures.stays c.pack.ensures.formed.formed c.pack.ensures.formed.leads

pub returns-clause-sound : goal.returns-clause-sound
returns-clause-sound g c = from_done c.pack.result c.pack.ensures.packs (λ packs. pack_sound g.S.Space _ _ _ _ _ c.table_stores.ensures c.args.form c.args.self.now (record c.args.self.now { table = c.pack.new.self }) c.args.space.now c.pack.new.space packs)

pub returns-clause-others : goal.returns-clause-others
returns-clause-others g c = from_done c.pack.result c.pack.ensures.packs (λ packs. pack_others g.S.Space _ _ _ _ _ c.table_stores.ensures c.args.form c.args.self.now (record c.args.self.now { table = c.pack.new.self }) c.args.space.now c.pack.new.space c.requires.ready packs)

pub returns-clause-full : goal.returns-clause-full
returns-clause-full g c = λ full. pack_full g.S.Space _ _ _ _ _ c.table_stores.ensures c.args.form c.args.self.now c.args.space.now c.pack.new.space (c.pack.ensures.full full)

pub returns-clause-refused : goal.returns-clause-refused
returns-clause-refused g c = both_refused c.pack.result c.pack.ensures.refused c.pack.ensures.left (λ refused left. pack_refused g.S.Space _ _ _ _ _ c.table_stores.ensures c.args.self.now (record c.args.self.now { table = c.pack.new.self }) c.args.space.now c.pack.new.space refl c.pack.ensures.formed.file c.pack.ensures.formed.sort_same left refused)
