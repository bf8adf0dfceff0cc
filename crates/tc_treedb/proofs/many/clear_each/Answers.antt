use Rattle.std.proofs.Common.{arith, subst, List, ℕ}
use Rattle.std.specs.Prelude.{IfSome}
use Rattle.tc_space.specs.Frames.{keeps_then}
use Rattle.bt_tree.specs.Meaning.{Changes}
use Rattle.tc_treedb.specs.Changing.{CountsTo, FillsAlong, cleared_in}
use Rattle.tc_treedb.proofs.Severals.{StayOrGo, cause_at, cleared_values, far_end, far_full, far_more, far_ready, far_start, go_way}
use Rattle.tc_treedb.proofs.Stored.{made_then, none_refl, none_then}
use Rattle.tc_treedb.proofs.many.clear_each.Goals as goal

pub loop-key-init : goal.loop-key-init
loop-key-init g c = (far_start g.R.S.Space g.R.Records g.O.Order (λ k. cleared_in g.O.Order.cmp k) c.args.total c.args.tree.now c.args.space.now c.requires.sound, none_refl c.args.tree.now)

pub clear_one-requires : goal.clear_one-requires
clear_one-requires g c = far_ready g.R.S.Space g.R.Records g.O.Order (λ k. cleared_in g.O.Order.cmp k) _ _ _ _ _ _ _ c.loop-key.invariant.0 (record { sound = c.requires.sound; held = c.requires.held })

pub loop-key-preserved : goal.loop-key-preserved
loop-key-preserved g c = (
  far_more g.R.S.Space g.R.Records g.O.Order (λ k. cleared_in g.O.Order.cmp k) c.args.keys.now c.loop-key.key-index c.key-item.result c.args.total c.loop-key.so_far c.in-Ok.counted c.args.tree.now c.loop-key.tree c.clear_one.new.tree c.args.space.now c.loop-key.space c.clear_one.new.space
      c.loop-key-test.true c.key-item.is c.loop-key.invariant.0 (subst (λ (k : List ℕ). Changes g.R.S.Space g.R.Records g.O.Order (cleared_in g.O.Order.cmp k) c.loop-key.tree c.clear_one.new.tree c.loop-key.space c.clear_one.new.space) c.as_slice.ensures c.in-Ok.ensures.cleared) (subst (λ (k : List ℕ). IfSome c.in-Ok.counted (CountsTo g.R.S.Space g.R.Records g.O.Order (cleared_in g.O.Order.cmp k) c.loop-key.so_far c.loop-key.tree c.loop-key.space)) c.as_slice.ensures c.in-Ok.ensures.counted) c.clear_one.ensures.keeps c.clear_one.ensures.stays.made,
  none_then _ _ _ c.loop-key.invariant.1 c.clear_one.ensures.stays.ids,
)

pub returns-in-Err-clause-refused : goal.returns-in-Err-clause-refused
returns-in-Err-clause-refused g c = c.given_up.ensures.given.flag

pub returns-in-Err-clause-keeps : goal.returns-in-Err-clause-keeps
returns-in-Err-clause-keeps g c = keeps_then g.R.S.Space _ _ _ c.loop-key.invariant.0.keeps (keeps_then g.R.S.Space _ _ _ c.clear_one.ensures.keeps c.given_up.ensures.given.keeps)

pub returns-in-Err-clause-stays : goal.returns-in-Err-clause-stays
returns-in-Err-clause-stays g c = record { made = made_then g.R.S.Space g.R.Records g.O.Order _ _ _ c.loop-key.invariant.0.stays c.clear_one.ensures.stays.made; ids = none_then _ _ _ c.loop-key.invariant.1 c.clear_one.ensures.stays.ids }

pub returns-clause-cleared : goal.returns-clause-cleared
returns-clause-cleared g c = (far_end g.R.S.Space g.R.Records g.O.Order (λ k. cleared_in g.O.Order.cmp k) c.args.keys.now c.loop-key.key-index _ _ _ _ _ _ (omega (arith, c.loop-key-test.false)) c.loop-key.invariant.0).writes

pub returns-clause-counted : goal.returns-clause-counted
returns-clause-counted g c = (far_end g.R.S.Space g.R.Records g.O.Order (λ k. cleared_in g.O.Order.cmp k) c.args.keys.now c.loop-key.key-index _ _ _ _ _ _ (omega (arith, c.loop-key-test.false)) c.loop-key.invariant.0).counted

pub returns-clause-keeps : goal.returns-clause-keeps
returns-clause-keeps g c = c.loop-key.invariant.0.keeps

pub returns-clause-stays : goal.returns-clause-stays
returns-clause-stays g c = record { made = c.loop-key.invariant.0.stays; ids = c.loop-key.invariant.1 }

pub returns-in-Err-clause-full : goal.returns-in-Err-clause-full
returns-in-Err-clause-full g c = λ full. far_full g.R.S.Space g.R.Records g.O.Order (λ k. cleared_in g.O.Order.cmp k) StayOrGo go_way (λ key ps k. cleared_values g.O.Order.cmp g.met.O.Order.total g.met.O.Order.exact key k ps) (λ v x y z key value. g.met.R.Records.lacks_still v x y z key value)
    c.args.keys.now c.loop-key.key-index c.key-item.result c.args.total c.loop-key.so_far c.args.tree.now c.loop-key.tree c.args.space.now c.loop-key.space c.clear_one.new.space c.given_up.new.space
    c.loop-key-test.true c.key-item.is c.loop-key.invariant.0 (subst (λ (k : List ℕ). FillsAlong g.R.S.Space g.R.Records g.O.Order (cleared_in g.O.Order.cmp k) c.loop-key.tree c.loop-key.space c.clear_one.new.space) c.as_slice.ensures (c.in-Err.ensures.full (cause_at c.given_up.result c.in-Err.e c.given_up.ensures.same full))) c.given_up.ensures.given
