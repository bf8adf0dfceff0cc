use Rattle.std.proofs.Common.{arith, ap, length, subst}
use Rattle.hf_survey.specs.declared.reaching.Item.{Item}
use Rattle.hf_survey.specs.Batches.{FollowsOn}
use Rattle.hf_survey.proofs.Batches.{both_on, left_stop, marked_low, right_stop, still_marked}
use Rattle.hf_survey.proofs.Lists.{if_ok, if_ok_with}
use Rattle.hf_survey.proofs.reaching.follow_both.Goals as goal

pub at-fact-requires : goal.at-fact-requires
at-fact-requires c = let l = marked_low c.args.items.now c.args.marks.now (length c.args.facts.now) c.requires.long c.requires.marked c.args.k c.at.result.now c.at.ensures in omega (arith, l.0, l.1)

pub overflow_sub-item : goal.overflow_sub-item
overflow_sub-item c = let l = marked_low c.args.items.now c.args.marks.now (length c.args.facts.now) c.requires.long c.requires.marked c.args.k c.at.result.now c.at.ensures in l.0

pub follow-requires-clause-low : goal.follow-requires-clause-low
follow-requires-clause-low c =
    let l = marked_low c.args.items.now c.args.marks.now (length c.args.facts.now) c.requires.long c.requires.marked c.args.k c.at.result.now c.at.ensures in
    (omega (arith, l.1, ap (λ (z : Item). z.above) c.left_of.ensures), omega (arith, l.3, ap (λ (z : Item). z.below) c.left_of.ensures))

pub follow-requires-2-clause-long : goal.follow-requires-2-clause-long
follow-requires-2-clause-long c = omega (arith, c.requires.long, c.follow.auto.marks)

pub follow-requires-2-clause-low : goal.follow-requires-2-clause-low
follow-requires-2-clause-low c =
    let l = marked_low c.args.items.now c.args.marks.now (length c.args.facts.now) c.requires.long c.requires.marked c.args.k c.at.result.now c.at.ensures in
    (omega (arith, l.2, ap (λ (z : Item). z.above) c.right_of.ensures), omega (arith, l.1, ap (λ (z : Item). z.below) c.right_of.ensures))

pub follow-requires-2-clause-marked : goal.follow-requires-2-clause-marked
follow-requires-2-clause-marked c = still_marked c.args.items.now c.args.marks.now c.follow.new.items c.follow.new.marks c.requires.marked c.in_ok-follow.ensures.marked

pub returns-clause-reached : goal.returns-clause-reached
returns-clause-reached c = if_ok_with c.follow-2.result c.follow-2.ensures.marked (λ new stay follows is.
    both_on c.args.facts.now c.args.items.now c.args.marks.now c.args.k c.at.result.now c.at-fact.result.now c.requires.long c.at.ensures c.at-fact.ensures
    c.follow.new.items c.follow.new.marks (omega (arith, c.requires.long, c.follow.auto.marks)) c.in_ok-follow.ensures.marked
    (subst (λ (z : Item). FollowsOn c.args.facts.now c.at-fact.result.now.left z c.args.items.now c.args.marks.now c.follow.new.items) c.left_of.ensures (c.in_ok-follow.ensures.follows c.if-not-branch.false))
    c.follow-2.new.items c.follow-2.new.marks c.requires.marked stay
    (subst (λ (z : Item). FollowsOn c.args.facts.now c.at-fact.result.now.right z c.follow.new.items c.follow.new.marks c.follow-2.new.items) c.right_of.ensures (follows is))) c.follow-2.ensures.follows

pub returns-clause-stops : goal.returns-clause-stops
returns-clause-stops c = if_ok c.follow-2.result (λ new stops is.
    right_stop c.args.facts.now c.args.items.now c.args.marks.now c.args.k c.at.result.now c.at-fact.result.now c.requires.long c.at.ensures c.at-fact.ensures
    c.follow.new.items c.follow.new.marks (omega (arith, c.requires.long, c.follow.auto.marks)) c.in_ok-follow.ensures.marked
    (subst (λ (z : Item). FollowsOn c.args.facts.now c.at-fact.result.now.left z c.args.items.now c.args.marks.now c.follow.new.items) c.left_of.ensures (c.in_ok-follow.ensures.follows c.if-not-branch.false))
    (stops is)) c.follow-2.ensures.stops

pub returns-then-not-branch-clause-stops : goal.returns-then-not-branch-clause-stops
returns-then-not-branch-clause-stops c = λ is. left_stop c.args.facts.now c.args.items.now c.args.marks.now c.args.k c.at.result.now c.at-fact.result.now c.requires.long c.at.ensures c.at-fact.ensures (c.in_ok-follow.ensures.stops c.if-not-branch.true)
