use Rattle.std.proofs.Common.{◌+◌, arith}
use Rattle.hf_survey.proofs.Batches.{chains_none, chains_stop, chains_then, chains_to, still_marked}
use Rattle.hf_survey.proofs.reaching.follow_row.Goals as goal

pub loop-k-init : goal.loop-k-init
loop-k-init c = record { long = c.requires.long; chains = chains_none c.args.facts.now c.args.items.now c.args.marks.now c.args.from }

pub follow_both-requires-clause-there : goal.follow_both-requires-clause-there
follow_both-requires-clause-there c = omega (arith, c.requires.there.1, c.loop-k.invariant.chains.long)

pub follow_both-requires-clause-marked : goal.follow_both-requires-clause-marked
follow_both-requires-clause-marked c = still_marked c.args.items.now c.args.marks.now c.loop-k.items c.loop-k.marks c.requires.marked c.loop-k.invariant.chains.marked

pub loop-k-preserved : goal.loop-k-preserved
loop-k-preserved c = record {
  long = omega (arith, c.loop-k.invariant.long, c.follow_both.auto.marks);
  chains = chains_then c.args.facts.now c.args.items.now c.args.marks.now c.loop-k.items c.loop-k.marks c.args.from c.loop-k.k c.loop-k.invariant.chains c.follow_both.new.items c.follow_both.new.marks (c.loop-k.k + 1) _ (omega arith) (c.in_ok-follow_both.ensures.reached c.if-not-branch.false);
}

pub returns-then-not-branch-clause-stops : goal.returns-then-not-branch-clause-stops
returns-then-not-branch-clause-stops c = λ is. chains_stop c.args.facts.now c.args.items.now c.args.marks.now c.loop-k.items c.loop-k.marks c.args.from c.loop-k.k c.loop-k.invariant.chains (c.in_ok-follow_both.ensures.stops c.if-not-branch.true)

pub returns-clause-reached : goal.returns-clause-reached
returns-clause-reached c = λ is. chains_to c.args.facts.now c.args.items.now c.args.marks.now c.loop-k.items c.loop-k.marks c.args.from c.loop-k.k c.loop-k.invariant.chains c.args.to (omega arith)
