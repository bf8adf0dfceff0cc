use Rattle.std.proofs.Common.{◌≡◌, ◌+◌, drop}
use Rattle.tc_plain.proofs.Fitting.{items_size}
use Rattle.tc_plain.proofs.apply.items_fit.Given as goal

abbrev pub invariant-loop-item : goal.invariant-loop-item
invariant-loop-item l = items_size l.items + l.room ≡ 67108859 + items_size (drop l.item-index l.items)
