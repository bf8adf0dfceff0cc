use Rattle.std.proofs.Common.{arith}
use Rattle.bt_tree.proofs.Seeks.{copying, copying_end, copying_more}
use Rattle.bt_tree.proofs.seeking.copy_from.Goals as goal

pub loop-i-init : goal.loop-i-init
loop-i-init c = record { so = copying c.args.leaf.now.items _ c.args.place c.new-items.ensures }

pub loop-i-preserved : goal.loop-i-preserved
loop-i-preserved c = record {
  so = copying_more c.args.leaf.now.items c.loop-i.items _ c.args.place c.loop-i.i _ c.loop-i.invariant.so (omega (arith, c.loop-i-test.true, c.len-i-end.ensures)) c.in_ok-item.ensures c.in_ok-push.ensures.ok;
}

pub returns : goal.returns
returns c = copying_end c.args.leaf.now.items c.loop-i.items c.args.place c.loop-i.i c.loop-i.invariant.so (omega (arith, c.loop-i-test.false, c.len-i-end.ensures))
