use Rattle.std.proofs.Common.{arith}
use Rattle.tc_space.specs.Frames.{keeps_then}
use Rattle.tc_treedb.specs.Changing.{set_in}
use Rattle.tc_treedb.proofs.Severals.{far_end, far_more, far_ready, far_start}
use Rattle.tc_treedb.proofs.Stored.{made_then}
use Rattle.tc_treedb.proofs.many.set_all.Goals as goal

pub loop-pair-init : goal.loop-pair-init
loop-pair-init g c = far_start g.R.S.Space g.R.Records g.O.Order (λ p. set_in g.O.Order.cmp p) c.args.total c.args.tree.now c.args.space.now c.requires.sound

pub set_one-requires : goal.set_one-requires
set_one-requires g c = far_ready g.R.S.Space g.R.Records g.O.Order (λ p. set_in g.O.Order.cmp p) _ _ _ _ _ _ _ c.loop-pair.invariant (record { sound = c.requires.sound; held = c.requires.held })

pub loop-pair-preserved : goal.loop-pair-preserved
loop-pair-preserved g c = far_more g.R.S.Space g.R.Records g.O.Order (λ p. set_in g.O.Order.cmp p) c.args.pairs.now c.loop-pair.pair-index c.pair-item.result c.args.total c.loop-pair.so_far c.in-Ok.counted c.args.tree.now c.loop-pair.tree c.set_one.new.tree c.args.space.now c.loop-pair.space c.set_one.new.space
    c.loop-pair-test.true c.pair-item.is c.loop-pair.invariant c.in-Ok.ensures.set c.in-Ok.ensures.counted c.set_one.ensures.keeps c.set_one.ensures.stays

pub returns-in-Err-clause-refused : goal.returns-in-Err-clause-refused
returns-in-Err-clause-refused g c = c.given_up.ensures.given.flag

pub returns-in-Err-clause-keeps : goal.returns-in-Err-clause-keeps
returns-in-Err-clause-keeps g c = keeps_then g.R.S.Space _ _ _ c.loop-pair.invariant.keeps (keeps_then g.R.S.Space _ _ _ c.set_one.ensures.keeps c.given_up.ensures.given.keeps)

pub returns-in-Err-clause-stays : goal.returns-in-Err-clause-stays
returns-in-Err-clause-stays g c = made_then g.R.S.Space g.R.Records g.O.Order _ _ _ c.loop-pair.invariant.stays c.set_one.ensures.stays

pub returns-clause-set : goal.returns-clause-set
returns-clause-set g c = (far_end g.R.S.Space g.R.Records g.O.Order (λ p. set_in g.O.Order.cmp p) c.args.pairs.now c.loop-pair.pair-index _ _ _ _ _ _ (omega (arith, c.loop-pair-test.false)) c.loop-pair.invariant).writes

pub returns-clause-counted : goal.returns-clause-counted
returns-clause-counted g c = (far_end g.R.S.Space g.R.Records g.O.Order (λ p. set_in g.O.Order.cmp p) c.args.pairs.now c.loop-pair.pair-index _ _ _ _ _ _ (omega (arith, c.loop-pair-test.false)) c.loop-pair.invariant).counted

pub returns-clause-keeps : goal.returns-clause-keeps
returns-clause-keeps g c = c.loop-pair.invariant.keeps

pub returns-clause-stays : goal.returns-clause-stays
returns-clause-stays g c = c.loop-pair.invariant.stays
