use Rattle.tc_realfs.proofs.Showing.{put_short}
use Rattle.tc_realfs.proofs.pages.Page.put.Goals as goal

pub invariant_of-self : goal.invariant_of-self
invariant_of-self c = record { short = put_short c.args.skip c.args.bytes.now c.args.self.now.bytes.items c.put_over.new.into.items c.put_over.ensures c.args.self.now.short c.requires.inside }
