use Rattle.std.proofs.Common.{◌≡◌, ◌++◌, drop}
use Rattle.tc_base.specs.Orders.{order}
use Rattle.tc_plain.specs.Bodies.{part_of}
use Rattle.tc_plain.proofs.trees.with_part.Given as goal

abbrev pub invariant-loop-pair : goal.invariant-loop-pair
invariant-loop-pair l = l.found ++ part_of l.part (order l.decimal) (drop l.pair-index l.pairs) l.key ≡ l.initial.found ++ part_of l.part (order l.decimal) l.pairs l.key
