use Rattle.std.proofs.Common.{◌∙◌}
use Rattle.tc_memdb.proofs.Changed.{same_size}
use Rattle.tc_memdb.proofs.data.Data.size.Goals as goal

pub returns-in-Tree : goal.returns-in-Tree
returns-in-Tree c = rw c.in-Tree.is (c.bytes-in-Tree.ensures ∙ same_size c.in-Tree.tree)
