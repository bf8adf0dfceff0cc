use Rattle.std.proofs.Common.{refl}
use Rattle.tc_hashdb.proofs.Counted.{counts_put}
use Rattle.tc_hashdb.proofs.Kept.{in_of, ready_hash, refuses_again}
use Rattle.tc_hashdb.proofs.Stored.{lacks_put, stored_so, takes_no_put, takes_put}
use Rattle.tc_reach.proofs.Handed.{err_handed, on_err_any}
use Rattle.tc_hashdb.proofs.holding.HashEngine.store_at.Goals as goal

pub put_within-requires : goal.put_within-requires
put_within-requires g c = ready_hash g.S.Space c.args.self.now c.args.space.now c.requires

pub returns-in_default-clause-takes : goal.returns-in_default-clause-takes
returns-in_default-clause-takes g c = takes_no_put g.S.Space c.args.mode c.args.key.now c.args.value.now c.in_ok-done.done c.args.self.now _ c.args.space.now c.put_within.new.space c.in_default.not-Stored c.in_ok-done.ensures.put c.put_within.ensures.stays refl

pub returns-clause-takes : goal.returns-clause-takes
returns-clause-takes g c =
    let stores = stored_so g.S.Space c.args.mode c.args.key.now c.args.value.now 16777216 c.in_ok-done.done c.in-Stored.old c.args.self.now.hash c.put_within.new.self c.args.space.now c.put_within.new.space c.in-Stored.is c.in_ok-done.ensures.put in
    takes_put g.S.Space c.args.mode c.args.key.now c.args.value.now c.in-Stored.old c.args.self.now _ c.args.space.now c.put_within.new.space c.requires stores c.put_within.ensures.stays
    (λ m means. counts_put _ _ c.in-Stored.old _ c.args.mode m c.args.key.now c.args.value.now _ refl (stores.was_is m (in_of g.S.Space c.args.self.now c.args.space.now m means)) c.stored_len-len.ensures means.1.counted c.counted_with-self.ensures)

pub returns-in_err-done-clause-full : goal.returns-in_err-done-clause-full
returns-in_err-done-clause-full g c = λ full. lacks_put g.S.Space c.args.mode c.args.key.now c.args.value.now c.args.self.now c.args.space.now c.put_within.new.space (c.in_err-done.ensures.full (err_handed c.from_residual.result c.in_err-done.field-0.0 _ c.from_residual.ensures.1 full))

pub returns-in_err-done-clause-refused : goal.returns-in_err-done-clause-refused
returns-in_err-done-clause-refused g c = on_err_any c.from_residual.result (refuses_again g.S.Space c.args.self.now _ c.args.space.now c.put_within.new.space c.in_err-done.ensures.refused c.put_within.ensures.stays.map.file c.put_within.ensures.stays.map.sort_same c.put_within.ensures.stays.map.region_same refl)
