use Rattle.std.proofs.Common.{arith}
use Rattle.tc_space.specs.Frames.{keeps_then}
use Rattle.tc_treedb.specs.Between.{IsFront}
use Rattle.tc_treedb.specs.Changing.{push_in}
use Rattle.tc_treedb.proofs.Severals.{cause_at, far_end, far_full, far_more, far_ready, far_start, front_way, pushed_front}
use Rattle.tc_treedb.proofs.Stored.{made_then}
use Rattle.tc_treedb.proofs.many.push_all.Goals as goal

pub loop-pair-init : goal.loop-pair-init
loop-pair-init g c = far_start g.R.S.Space g.R.Records g.O.Order (λ p. push_in g.O.Order.cmp p) c.args.total c.args.tree.now c.args.space.now c.requires.sound

pub push_one-requires : goal.push_one-requires
push_one-requires g c = far_ready g.R.S.Space g.R.Records g.O.Order (λ p. push_in g.O.Order.cmp p) _ _ _ _ _ _ _ c.loop-pair.invariant (record { sound = c.requires.sound; held = c.requires.held })

pub loop-pair-preserved : goal.loop-pair-preserved
loop-pair-preserved g c = far_more g.R.S.Space g.R.Records g.O.Order (λ p. push_in g.O.Order.cmp p) c.args.pairs.now c.loop-pair.pair-index c.pair-item.result c.args.total c.loop-pair.so_far c.in-Ok.counted c.args.tree.now c.loop-pair.tree c.push_one.new.tree c.args.space.now c.loop-pair.space c.push_one.new.space
    c.loop-pair-test.true c.pair-item.is c.loop-pair.invariant c.in-Ok.ensures.pushed c.in-Ok.ensures.counted c.push_one.ensures.keeps c.push_one.ensures.stays

pub returns-in-Err-clause-refused : goal.returns-in-Err-clause-refused
returns-in-Err-clause-refused g c = c.given_up.ensures.given.flag

pub returns-in-Err-clause-keeps : goal.returns-in-Err-clause-keeps
returns-in-Err-clause-keeps g c = keeps_then g.R.S.Space _ _ _ c.loop-pair.invariant.keeps (keeps_then g.R.S.Space _ _ _ c.push_one.ensures.keeps c.given_up.ensures.given.keeps)

pub returns-in-Err-clause-stays : goal.returns-in-Err-clause-stays
returns-in-Err-clause-stays g c = made_then g.R.S.Space g.R.Records g.O.Order _ _ _ c.loop-pair.invariant.stays c.push_one.ensures.stays

pub returns-clause-pushed : goal.returns-clause-pushed
returns-clause-pushed g c = (far_end g.R.S.Space g.R.Records g.O.Order (λ p. push_in g.O.Order.cmp p) c.args.pairs.now c.loop-pair.pair-index _ _ _ _ _ _ (omega (arith, c.loop-pair-test.false)) c.loop-pair.invariant).writes

pub returns-clause-counted : goal.returns-clause-counted
returns-clause-counted g c = (far_end g.R.S.Space g.R.Records g.O.Order (λ p. push_in g.O.Order.cmp p) c.args.pairs.now c.loop-pair.pair-index _ _ _ _ _ _ (omega (arith, c.loop-pair-test.false)) c.loop-pair.invariant).counted

pub returns-clause-keeps : goal.returns-clause-keeps
returns-clause-keeps g c = c.loop-pair.invariant.keeps

pub returns-clause-stays : goal.returns-clause-stays
returns-clause-stays g c = c.loop-pair.invariant.stays

pub returns-in-Err-clause-full : goal.returns-in-Err-clause-full
returns-in-Err-clause-full g c = λ full. far_full g.R.S.Space g.R.Records g.O.Order (λ p. push_in g.O.Order.cmp p) IsFront front_way (λ p ps k. pushed_front g.O.Order.cmp g.met.O.Order.total g.met.O.Order.exact p.key p.value k ps) (λ v x y z key value. g.met.R.Records.lacks_still v x y z key value)
    c.args.pairs.now c.loop-pair.pair-index c.pair-item.result c.args.total c.loop-pair.so_far c.args.tree.now c.loop-pair.tree c.args.space.now c.loop-pair.space c.push_one.new.space c.given_up.new.space
    c.loop-pair-test.true c.pair-item.is c.loop-pair.invariant (c.in-Err.ensures.full (cause_at c.given_up.result c.in-Err.e c.given_up.ensures.same full)) c.given_up.ensures.given
