use Rattle.std.proofs.Common.{refl}
use Rattle.tc_hashdb.proofs.Kept.{ready_hash, refuses_again}
use Rattle.tc_hashdb.proofs.Stored.{lacks_log, takes_cleared}
use Rattle.tc_reach.proofs.Handed.{err_handed, on_err_any}
use Rattle.tc_hashdb.proofs.holding.HashEngine.clear_all_keys.Goals as goal

pub clear-requires : goal.clear-requires
clear-requires g c = ready_hash g.S.Space c.args.self.now c.args.space.now c.requires

pub returns-clause-takes : goal.returns-clause-takes
returns-clause-takes g c = takes_cleared g.S.Space c.args.self.now _ c.args.space.now c.clear.new.space c.requires c.in_ok-clear.ensures.cleared c.clear.ensures.stays c.clear.ensures.shape c.in_ok-clear.ensures.made refl

pub returns-in_err-clear-clause-full : goal.returns-in_err-clear-clause-full
returns-in_err-clear-clause-full g c = λ full. lacks_log g.S.Space _ c.args.self.now c.args.space.now c.clear.new.space (c.in_err-clear.ensures.full (err_handed c.from_residual.result c.in_err-clear.field-0.0 _ c.from_residual.ensures.1 full))

pub returns-in_err-clear-clause-refused : goal.returns-in_err-clear-clause-refused
returns-in_err-clear-clause-refused g c = on_err_any c.from_residual.result (refuses_again g.S.Space c.args.self.now _ c.args.space.now c.clear.new.space c.in_err-clear.ensures.refused c.clear.ensures.stays.file c.clear.ensures.stays.sort_same c.clear.ensures.stays.region_same refl)
