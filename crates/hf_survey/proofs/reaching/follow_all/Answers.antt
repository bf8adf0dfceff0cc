use Rattle.std.proofs.Common.{refl, arith, length}
use Rattle.hf_survey.proofs.Batches.{chains_none, chains_stop, chains_then, chains_to, few_marked, still_marked}
use Rattle.hf_survey.proofs.reaching.follow_all.Goals as goal

pub loop-k-init : goal.loop-k-init
loop-k-init c = record { long = c.requires.long; most = omega arith; chains = chains_none c.args.facts.now c.args.items.now c.args.marks.now 0 }

pub loop-k-smaller : goal.loop-k-smaller
loop-k-smaller c = omega (arith, few_marked c.loop-k.items c.loop-k.marks (still_marked c.args.items.now c.args.marks.now c.loop-k.items c.loop-k.marks c.requires.marked c.loop-k.invariant.chains.marked), c.loop-k.invariant.long)

pub follow_some-requires-clause-marked : goal.follow_some-requires-clause-marked
follow_some-requires-clause-marked c = still_marked c.args.items.now c.args.marks.now c.loop-k.items c.loop-k.marks c.requires.marked c.loop-k.invariant.chains.marked

pub loop-k-preserved : goal.loop-k-preserved
loop-k-preserved c =
    let on = c.in_ok-follow_some.ensures.reached c.if-not-branch.false in
    record {
      long = omega (arith, c.loop-k.invariant.long, c.follow_some.auto.marks);
      most = omega (arith, on.long);
      chains = chains_then c.args.facts.now c.args.items.now c.args.marks.now c.loop-k.items c.loop-k.marks 0 c.loop-k.k c.loop-k.invariant.chains c.follow_some.new.items c.follow_some.new.marks _ _ refl on;
    }

pub returns-then-not-branch-clause-stops : goal.returns-then-not-branch-clause-stops
returns-then-not-branch-clause-stops c = λ is. chains_stop c.args.facts.now c.args.items.now c.args.marks.now c.loop-k.items c.loop-k.marks 0 c.loop-k.k c.loop-k.invariant.chains (c.in_ok-follow_some.ensures.stops c.if-not-branch.true)

pub returns-clause-reached : goal.returns-clause-reached
returns-clause-reached c = λ is. chains_to c.args.facts.now c.args.items.now c.args.marks.now c.loop-k.items c.loop-k.marks 0 c.loop-k.k c.loop-k.invariant.chains (length c.loop-k.items) (omega (arith, c.loop-k-test.false, c.loop-k.invariant.most))
