use Rattle.std.proofs.Common.{refl}
use Rattle.tc_hash.proofs.Records.{can_change, refuses_only}
use Rattle.tc_hash.proofs.Stored.{takes_out}
use Rattle.tc_reach.proofs.Handed.{on_err_any}
use Rattle.tc_hash.proofs.hash.Hash.take_record.Goals as goal

pub take_out-requires : goal.take_out-requires
take_out-requires g c = record { may = can_change g.S.Space c.args.self.now c.args.space.now c.requires.ready; found = c.requires.found; block = c.requires.block }

pub returns-clause-taken : goal.returns-clause-taken
returns-clause-taken g c = takes_out g.S.Space c.args.key.now c.args.place.now c.args.room c.args.self.now _ c.args.space.now c.take_out.new.space c.take_out.ensures.stays refl c.saturating_sub-self.ensures c.requires.found c.in_ok-take_out.ensures.out c.in_ok-take_out.ensures.pool

pub returns-in_err-take_out-clause-refused : goal.returns-in_err-take_out-clause-refused
returns-in_err-take_out-clause-refused g c = on_err_any c.from_residual.result (refuses_only g.S.Space c.args.self.now _ c.args.space.now c.take_out.new.space refl refl c.in_err-take_out.ensures.refused)
