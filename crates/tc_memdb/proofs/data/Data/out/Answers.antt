use Rattle.tc_memdb.proofs.Changed.{map_out, tree_out}
use Rattle.tc_memdb.proofs.data.Data.out.Goals as goal

pub returns-in-Map : goal.returns-in-Map
returns-in-Map c = rw c.in-Map.is (map_out _ _ _ _ c.remove.ensures.map c.remove.ensures.held)

pub returns-in-Tree : goal.returns-in-Tree
returns-in-Tree c = rw c.in-Tree.is (tree_out _ _ _ _ c.take_first.ensures.pairs c.take_first.ensures.held c.take_first.ensures.absent)
