use Rattle.std.proofs.Common.{take}
use Rattle.tc_memdb.proofs.Along.{Follows}
use Rattle.tc_memdb.proofs.reading.add_values.Given as goal

abbrev pub invariant-loop-value : goal.invariant-loop-value
invariant-loop-value l = Follows l.key (take l.value-index l.values) l.fn.left l.left l.fn.rows l.rows
