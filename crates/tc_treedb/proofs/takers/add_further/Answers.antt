use Rattle.std.proofs.Common.{arith}
use Rattle.tc_engine.specs.Rows.{extends_then}
use Rattle.tc_treedb.proofs.Takings.{further_all, further_more, further_none, further_stop}
use Rattle.tc_treedb.proofs.takers.add_further.Goals as goal

pub loop-i-init : goal.loop-i-init
loop-i-init c = record { within = omega arith; so_far = further_none c.args.item.now.key.now c.args.item.now.further.now c.args.into.now }

pub loop-i-preserved : goal.loop-i-preserved
loop-i-preserved c = record {
  within = omega (arith, c.loop-i-test.true);
  so_far = further_more c.args.item.now.key.now c.args.item.now.further.now c.loop-i.i c.loop-i.rest.now c.next_value.result.0.now c.next_value.result.1.now c.args.into.now c.loop-i.into c.add_pair.new.into c.loop-i.invariant.so_far c.next_value.ensures
      (rw c.if-not-branch.false at c.in_ok-add_pair.ensures.added) c.add_pair.ensures.front;
}

pub returns-in_err-add_pair-clause-front : goal.returns-in_err-add_pair-clause-front
returns-in_err-add_pair-clause-front c = extends_then c.args.into.now.rows c.loop-i.into.rows c.add_pair.new.into.rows c.loop-i.invariant.so_far.front c.add_pair.ensures.front

pub returns-then-not-branch-clause-added : goal.returns-then-not-branch-clause-added
returns-then-not-branch-clause-added c = further_stop c.args.item.now.key.now c.args.item.now.further.now c.loop-i.i c.loop-i.rest.now c.next_value.result.0.now c.next_value.result.1.now c.args.into.now c.loop-i.into c.add_pair.new.into c.loop-i.invariant.so_far c.next_value.ensures
    c.args.item.now.more (omega (arith, c.loop-i-test.true)) (rw c.if-not-branch.true at c.in_ok-add_pair.ensures.added)

pub returns-then-not-branch-clause-front : goal.returns-then-not-branch-clause-front
returns-then-not-branch-clause-front c = extends_then c.args.into.now.rows c.loop-i.into.rows c.add_pair.new.into.rows c.loop-i.invariant.so_far.front c.add_pair.ensures.front

pub returns-clause-added : goal.returns-clause-added
returns-clause-added c = further_all c.args.item.now.key.now c.args.item.now.further.now c.loop-i.i c.args.item.now.more c.loop-i.rest.now c.args.into.now c.loop-i.into c.loop-i.invariant.within (omega (arith, c.loop-i-test.false)) c.loop-i.invariant.so_far

pub returns-clause-front : goal.returns-clause-front
returns-clause-front c = c.loop-i.invariant.so_far.front
