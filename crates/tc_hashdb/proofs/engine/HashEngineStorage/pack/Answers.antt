use Rattle.std.proofs.Common.{refl}
use Rattle.tc_hash.proofs.Stored.{from_refused}
use Rattle.tc_hashdb.specs.Lifting.{ready_down}
use Rattle.tc_hashdb.specs.Laying.{both_done}
use Rattle.tc_hashdb.proofs.Kept.{ready_hash}
use Rattle.tc_hashdb.proofs.Packed.{pack_formed, pack_full, pack_refused, pack_tight, packed_up}
use Rattle.tc_hashdb.proofs.engine.HashEngineStorage.pack.Goals as goal

pub pack-requires : goal.pack-requires
pack-requires g c = ready_hash g.S.Space c.args.self.now c.args.space.now (ready_down g.S.Space c.args.self.now c.args.space.now c.requires.ready)

pub returns-clause-tight : goal.returns-clause-tight
returns-clause-tight g c = let e = record c.args.self.now { hash = c.pack.new.self } in both_done c.pack.result c.pack.ensures.packed c.pack.ensures.packs (λ packed packs. pack_tight g.S.Space c.args.form c.args.self.now e c.args.space.now c.pack.new.space packed c.pack.ensures.stays packs)

pub returns-clause-packed : goal.returns-clause-packed
returns-clause-packed g c = both_done c.pack.result c.pack.ensures.packed c.pack.ensures.packs (λ packed packs. packed_up g.S.Space c.args.self.now (record c.args.self.now { hash = c.pack.new.self }) c.args.space.now c.pack.new.space c.requires.ready packed c.pack.ensures.stays packs.region refl)

pub returns-clause-formed : goal.returns-clause-formed
returns-clause-formed g c = let e = record c.args.self.now { hash = c.pack.new.self } in both_done c.pack.result c.pack.ensures.packed c.pack.ensures.packs (λ packed packs. pack_formed g.S.Space c.args.form c.args.self.now e c.args.space.now c.pack.new.space
    (λ d h. packed_up g.S.Space c.args.self.now e c.args.space.now c.pack.new.space c.requires.ready packed c.pack.ensures.stays packs.region refl d h) c.pack.ensures.stays packs)

pub returns-clause-refused : goal.returns-clause-refused
returns-clause-refused g c = from_refused _ c.pack.ensures.refused (λ refused. pack_refused g.S.Space c.args.self.now (record c.args.self.now { hash = c.pack.new.self }) c.args.space.now c.pack.new.space refused c.pack.ensures.stays refl)

pub returns-clause-full : goal.returns-clause-full
returns-clause-full g c = λ full. pack_full g.S.Space c.args.form c.args.self.now c.args.space.now c.pack.new.space (c.pack.ensures.full full)
