use Rattle.tc_memdb.proofs.Changed.{map_cleared}
use Rattle.tc_memdb.proofs.data.Data.clear_key.Goals as goal

pub returns-in-Map : goal.returns-in-Map
returns-in-Map c = rw c.in-Map.is (map_cleared _ _ _ c.remove.ensures.map)
