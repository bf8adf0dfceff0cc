use Rattle.std.proofs.Common.{refl}
use Rattle.tc_hash.proofs.Records.{can_change}
use Rattle.tc_hash.proofs.Stored.{gives_new, not_done}
use Rattle.tc_reach.proofs.Handed.{on_err_any}
use Rattle.tc_hash.proofs.hash.Hash.insert.Goals as goal

pub hang_new-requires-clause-may : goal.hang_new-requires-clause-may
hang_new-requires-clause-may g c = can_change g.S.Space c.args.self.now c.args.space.now c.requires.ready

pub returns-clause-put : goal.returns-clause-put
returns-clause-put g c =
    let p = c.in_ok-hang_new.ensures.put in
    record {
      gives = gives_new g.S.Space c.args.key.now c.args.value.now c.args.to.now c.args.self.now _ c.args.space.now c.hang_new.new.space c.hang_new.ensures.stays refl refl c.requires.gap p;
      place = p.place;
      takes = p.takes;
    }

pub returns-clause-outcome : goal.returns-clause-outcome
returns-clause-outcome g c = record { ok = c.in_ok-hang_new.ensures.put.puts.sound; err = tt }

pub returns-in_err-hang_new-clause-outcome : goal.returns-in_err-hang_new-clause-outcome
returns-in_err-hang_new-clause-outcome g c = record { ok = not_done (g.S.Space.sound c.hang_new.new.space) _ c.from_residual.result c.from_residual.ensures.1; err = on_err_any c.from_residual.result c.in_err-hang_new.ensures.refused }
