use Rattle.std.proofs.Common.{◌∙◌, ◌+◌, sym}
use Rattle.std.proofs.lemmas.List.{take_rest}
use Rattle.td_index.proofs.Seconds.{found, goes_on, none}
use Rattle.td_index.proofs.ranges.second_of.Goals as goal

pub loop-i-preserved : goal.loop-i-preserved
loop-i-preserved c = goes_on c.args.key.now c.loop-i.i c.loop-i-test.true c.if-key-i-eq0.false c.loop-i.invariant

pub returns-then-key-i-eq0 : goal.returns-then-key-i-eq0
returns-then-key-i-eq0 c = take_rest c.args.key.now (c.loop-i.i + 1) ∙ sym (found c.args.key.now c.loop-i.i c.loop-i-test.true c.if-key-i-eq0.true c.loop-i.invariant)

pub returns : goal.returns
returns c = sym (none c.args.key.now c.loop-i.i c.loop-i-test.false c.loop-i.invariant)
