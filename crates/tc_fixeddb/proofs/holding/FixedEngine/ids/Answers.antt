use Rattle.tc_fixeddb.specs.Lifting.{ready_down, reads_up}
use Rattle.tc_fixeddb.proofs.Listed.{all_listed}
use Rattle.tc_fixeddb.proofs.holding.FixedEngine.ids.Goals as goal

pub ids_in-requires : goal.ids_in-requires
ids_in-requires g c = record { ready = ready_down g.S.Space c.args.self.now c.args.space.now c.requires }

pub returns-clause-value : goal.returns-clause-value
returns-clause-value g c = all_listed g.S.Space c.args.self.now c.args.space.now c.args.most c.new-ids.result.items c.ids_in.new.into.items c.new-ids.ensures.items c.in_ok-ids_in.ensures.listed

pub returns-clause-reads : goal.returns-clause-reads
returns-clause-reads g c = reads_up g.S.Space _ _ _ _ c.ids_in.ensures.reads c.ids_in.ensures.shape

pub returns-in_err-ids_in-clause-reads : goal.returns-in_err-ids_in-clause-reads
returns-in_err-ids_in-clause-reads g c = reads_up g.S.Space _ _ _ _ c.ids_in.ensures.reads c.ids_in.ensures.shape
