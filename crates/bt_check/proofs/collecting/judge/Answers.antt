use Rattle.std.proofs.Common.{arith}
use Rattle.bt_check.proofs.Collects.{leaf_judged, no_leaf, no_node, node_judged}
use Rattle.bt_check.proofs.collecting.judge.Goals as goal

pub returns-in_default : goal.returns-in_default
returns-in_default c = no_leaf c.args.id c.args.bytes (omega (arith, c.if-id-lt-PAGE_END.true)) c.in_default.ensures.none

pub returns-then-id-lt-PAGE_END : goal.returns-then-id-lt-PAGE_END
returns-then-id-lt-PAGE_END c = leaf_judged c.args.head.now c.args.id c.args.bytes c.in-Some.leaf _ (omega (arith, c.if-id-lt-PAGE_END.true)) c.in-Some.ensures.found c.leaf_within.ensures

pub returns-in_default-read : goal.returns-in_default-read
returns-in_default-read c = no_node c.args.id c.args.bytes (omega (arith, c.if-id-lt-PAGE_END.false)) c.in_default-read.ensures.none

pub returns : goal.returns
returns c = node_judged c.args.head.now c.args.id c.args.bytes c.in-Some-read.node _ (omega (arith, c.if-id-lt-PAGE_END.false)) c.in-Some-read.ensures.found c.node_within.ensures
