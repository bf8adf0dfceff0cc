use Rattle.std.proofs.Common.{ℕ, refl, subst, Option}
use Rattle.tc_hash.specs.Putting.{TakesLen}
use Rattle.tc_hashdb.proofs.Kept.{ready_hash, refuses_again}
use Rattle.tc_hashdb.proofs.Stored.{takes_none, takes_out}
use Rattle.tc_reach.proofs.Handed.{on_err_any}
use Rattle.tc_hashdb.proofs.holding.HashEngine.out_at.Goals as goal

pub out-requires : goal.out-requires
out-requires g c = ready_hash g.S.Space c.args.self.now c.args.space.now c.requires

pub returns-in_default-clause-takes : goal.returns-in_default-clause-takes
returns-in_default-clause-takes g c = takes_none g.S.Space c.args.key.now c.args.self.now _ c.args.space.now c.out.new.space (subst (λ (o : Option ℕ). TakesLen g.S.Space c.args.key.now o c.args.self.now.hash c.out.new.self c.args.space.now c.out.new.space) c.in_default.is c.in_ok-old.ensures.out) c.out.ensures.stays refl

pub returns-clause-takes : goal.returns-clause-takes
returns-clause-takes g c = takes_out g.S.Space c.args.key.now c.in-Some.old _ c.args.self.now _ c.args.space.now c.out.new.space c.requires (subst (λ (o : Option ℕ). TakesLen g.S.Space c.args.key.now o c.args.self.now.hash c.out.new.self c.args.space.now c.out.new.space) c.in-Some.is c.in_ok-old.ensures.out) c.out.ensures.stays refl c.counted_without-self.ensures

pub returns-in_err-old-clause-refused : goal.returns-in_err-old-clause-refused
returns-in_err-old-clause-refused g c = on_err_any c.from_residual.result (refuses_again g.S.Space c.args.self.now _ c.args.space.now c.out.new.space c.in_err-old.ensures.refused c.out.ensures.stays.map.file c.out.ensures.stays.map.sort_same c.out.ensures.stays.map.region_same refl)
