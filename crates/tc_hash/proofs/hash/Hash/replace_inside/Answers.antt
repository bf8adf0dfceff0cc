use Rattle.std.proofs.Common.{refl}
use Rattle.hf_record.specs.Changing.{PutsAt}
use Rattle.tc_hash.proofs.Records.{can_change}
use Rattle.tc_hash.proofs.Stored.{both_ok, from_done, gives_over}
use Rattle.tc_hash.proofs.hash.Hash.replace_inside.Goals as goal

pub replace-requires-clause-ready : goal.replace-requires-clause-ready
replace-requires-clause-ready g c = let is = c.requires.block in record { may = can_change g.S.Space c.args.self.now c.args.space.now is.ready; found = is.found; block = is.block }

pub returns-clause-put : goal.returns-clause-put
returns-clause-put g c = both_ok c.replace.result (gives_over g.S.Space c.args.key.now c.args.value.now c.args.place.now c.args.room c.args.self.now _ c.args.space.now c.replace.new.space c.replace.ensures.stays refl refl c.requires.block.found c.requires.block.block c.requires.fits.within) c.replace.ensures.put c.replace.ensures.pool

pub returns-clause-outcome : goal.returns-clause-outcome
returns-clause-outcome g c = record { ok = from_done _ c.replace.ensures.put (λ (p : PutsAt g.S.Space c.args.key.now c.args.value.now c.args.place.now.at 5 c.args.self.now.body c.replace.new.self c.args.space.now c.replace.new.space). p.sound); err = c.replace.ensures.refused }
