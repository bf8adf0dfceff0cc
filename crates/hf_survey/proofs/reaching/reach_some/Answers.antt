use Rattle.std.proofs.Common.{arith}
use Rattle.hf_survey.proofs.Batches.{still_marked, trees_on, trees_stop, trees_unrooted}
use Rattle.hf_survey.proofs.Lists.{if_ok}
use Rattle.hf_survey.proofs.reaching.reach_some.Goals as goal

pub follow_all-requires-clause-long : goal.follow_all-requires-clause-long
follow_all-requires-clause-long c = omega (arith, c.requires.long, c.follow_roots.auto.marks)

pub follow_all-requires-clause-marked : goal.follow_all-requires-clause-marked
follow_all-requires-clause-marked c = let on = c.in_ok-follow_roots.ensures.reached c.if-not-branch.false in still_marked c.args.items.now c.args.marks.now c.follow_roots.new.items c.follow_roots.new.marks c.requires.marked on.marked

pub returns-clause-reached : goal.returns-clause-reached
returns-clause-reached c = if_ok c.follow_all.result (λ new on is. trees_on c.args.facts.now c.args.first c.args.places.now c.args.items.now c.args.marks.now c.requires.none c.follow_roots.new.items c.follow_roots.new.marks
    (c.in_ok-follow_roots.ensures.reached c.if-not-branch.false) c.follow_all.new.items c.follow_all.new.marks (on is)) c.follow_all.ensures.reached

pub returns-clause-stops : goal.returns-clause-stops
returns-clause-stops c = if_ok c.follow_all.result (λ new stops is. trees_stop c.args.facts.now c.args.first c.args.places.now c.args.items.now c.args.marks.now c.requires.none c.follow_roots.new.items c.follow_roots.new.marks
    (c.in_ok-follow_roots.ensures.reached c.if-not-branch.false) (stops is)) c.follow_all.ensures.stops

pub returns-then-not-branch-clause-stops : goal.returns-then-not-branch-clause-stops
returns-then-not-branch-clause-stops c = λ is. trees_unrooted c.args.facts.now c.args.first c.args.places.now c.args.items.now c.args.marks.now c.requires.none (c.in_ok-follow_roots.ensures.stops c.if-not-branch.true)
