use Rattle.hf_pool.proofs.Marking.{head_is}
use Rattle.hf_pool.proofs.marks.head_of.Goals as goal

pub returns : goal.returns
returns c = head_is c.args.size _ c.set_le.ensures.after
