use Rattle.std.proofs.Common.{arith}
use Rattle.hf_survey.proofs.Batches.{roots_empty, roots_more, roots_none, roots_stop, still_marked}
use Rattle.hf_survey.proofs.reaching.follow_roots.Goals as goal

pub loop-i-init : goal.loop-i-init
loop-i-init c = record { next = omega arith; long = c.requires.long; roots = roots_none c.args.facts.now c.args.first c.args.places.now c.args.items.now c.args.marks.now }

pub loop-i-preserved-then-places-i-eq0 : goal.loop-i-preserved-then-places-i-eq0
loop-i-preserved-then-places-i-eq0 c = record {
  next = let n = c.loop-i.invariant.next in omega (arith, n);
  long = c.loop-i.invariant.long;
  roots = roots_empty c.args.facts.now c.args.first c.args.places.now c.args.items.now c.args.marks.now c.loop-i.items c.loop-i.marks c.loop-i.i (omega arith) c.loop-i.invariant.roots c.loop-i.invariant.long c.if-places-i-eq0.true;
}

pub follow-requires-clause-marked : goal.follow-requires-clause-marked
follow-requires-clause-marked c = still_marked c.args.items.now c.args.marks.now c.loop-i.items c.loop-i.marks c.requires.marked c.loop-i.invariant.roots.marked

pub loop-i-preserved : goal.loop-i-preserved
loop-i-preserved c = record {
  next = let n = c.loop-i.invariant.next in omega (arith, n);
  long = omega (arith, c.loop-i.invariant.long, c.follow.auto.marks);
  roots = roots_more c.args.facts.now c.args.first c.args.places.now c.args.items.now c.args.marks.now c.loop-i.items c.loop-i.marks c.loop-i.i (omega arith) c.loop-i.invariant.roots c.loop-i.invariant.long c.follow.new.items c.follow.new.marks
      (still_marked c.args.items.now c.args.marks.now c.loop-i.items c.loop-i.marks c.requires.marked c.loop-i.invariant.roots.marked) c.in_ok-follow.ensures.marked (c.in_ok-follow.ensures.follows c.if-not-branch.false);
}

pub returns-then-not-branch-clause-stops : goal.returns-then-not-branch-clause-stops
returns-then-not-branch-clause-stops c = λ is. roots_stop c.args.facts.now c.args.first c.args.places.now c.args.items.now c.args.marks.now c.loop-i.items c.loop-i.marks c.loop-i.i (omega arith) c.loop-i.invariant.roots (c.in_ok-follow.ensures.stops c.if-not-branch.true)
