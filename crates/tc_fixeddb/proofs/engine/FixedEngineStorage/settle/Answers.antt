use Rattle.tc_fixeddb.specs.Lifting.{ready_down, refuses_up}
use Rattle.ty_base.proofs.Refusals.{on_err_of}
use Rattle.tc_fixeddb.proofs.Settled.{settled_up, trims_up}
use Rattle.tc_fixeddb.proofs.engine.FixedEngineStorage.settle.Goals as goal

pub settle-requires : goal.settle-requires
settle-requires g c = record { ready = ready_down g.S.Space c.args.self.now c.args.space.now c.requires.ready }

pub returns-clause-settled : goal.returns-clause-settled
returns-clause-settled g c = settled_up g.S.Space _ _ _ _ c.in_ok-settle.ensures.settled c.in_ok-settle.ensures.stands c.settle.ensures.shape

pub returns-clause-trims : goal.returns-clause-trims
returns-clause-trims g c = trims_up g.S.Space c.args.self.now c.args.space.now c.settle.new.space c.in_ok-settle.ensures.wrote c.in_ok-settle.ensures.stands

pub returns-in_err-settle-clause-refused : goal.returns-in_err-settle-clause-refused
returns-in_err-settle-clause-refused g c = on_err_of _ (refuses_up g.S.Space _ _ _ _ c.in_err-settle.ensures.refused c.settle.ensures.shape)
