use Rattle.std.proofs.Common.{refl, sym, ap, subst}
use Rattle.std.proofs.Common.{Err}
use Rattle.tc_base.specs.declared.kind.Mode.TheVariants.{Over}
use Rattle.tc_hashdb.proofs.Counted.{counts_put}
use Rattle.tc_hashdb.proofs.Filled.{key_fills}
use Rattle.tc_hashdb.proofs.Kept.{in_of, ready_hash, shows_still, writes_again}
use Rattle.tc_hashdb.proofs.Stored.{stored_so}
use Rattle.tc_hashdb.specs.Filling.{FillsKey}
use Rattle.tc_space.specs.Changes.{put_in}
use Rattle.tc_space.specs.declared.errors.RecErr.TheVariants.{Full}
use Rattle.ty_base.proofs.Refusals.{cause_is}
use Rattle.tc_hashdb.proofs.holding.HashEngine.set_value.Goals as goal

pub put_within-requires : goal.put_within-requires
put_within-requires g c = ready_hash g.S.Space c.args.self.now c.args.space.now c.requires.ready

pub returns-clause-set : goal.returns-clause-set
returns-clause-set g c =
    let stores = stored_so g.S.Space Over c.args.key.now c.args.value.now _ c.in-Ok.done c.in-Stored.old c.args.self.now.hash c.put_within.new.self c.args.space.now c.put_within.new.space c.in-Stored.is c.in-Ok.ensures.put in
    writes_again g.S.Space (put_in Over c.args.key.now c.args.value.now) c.args.self.now _ c.args.space.now c.put_within.new.space c.requires.ready stores.puts.0.writes c.put_within.ensures.stays.map.file c.put_within.ensures.stays.map.sort_same
    (λ m means. counts_put _ _ c.in-Stored.old _ Over m c.args.key.now c.args.value.now _ refl (stores.was_is m (in_of g.S.Space c.args.self.now c.args.space.now m means)) refl means.1.counted c.counted_with-self.ensures)
    (λ m means. shows_still g.S.Space c.args.self.now c.put_within.new.self c.args.space.now c.put_within.new.space m means c.put_within.ensures.stays.map.region_same stores.puts.1.front)

pub returns-in-Err-clause-full : goal.returns-in-Err-clause-full
returns-in-Err-clause-full g c = λ full m means.
    let given = c.given_up.ensures.full (cause_is c.given_up.result Full full) in
    subst (λ x. FillsKey g.S.Space x m c.args.key.now c.args.value.now) (sym given.1)
    (key_fills g.S.Space Over c.args.key.now c.args.value.now c.args.self.now.hash c.args.space.now c.put_within.new.space m means.1.file (in_of g.S.Space c.args.self.now c.args.space.now m means) (c.in-Err.ensures.full (ap (λ e. Err e) given.0)).lacks.block)

pub given_up-requires : goal.given_up-requires
given_up-requires g c = λ is. (c.in-Err.ensures.full (ap (λ e. Err e) is)).lacks.block.spoiled
