use Rattle.std.proofs.Common.{◌≡◌, ◌-◌, ◌^◌, ◌<◌, take, min}
use Rattle.tc_base.specs.Decimal.{decimal}
use Rattle.tc_base.proofs.decimal.whole_part.Given as goal

abbrev pub invariant-loop-i : goal.invariant-loop-i
invariant-loop-i l = (l.whole ≡ min (10 ^ 18 - 1) (decimal (take l.i l.text))) × (l.whole < 10 ^ 18)
