use Rattle.std.proofs.Common.{◌≡◌, ◌^◌, ◌<◌, take}
use Rattle.tc_base.specs.Decimal.{decimal, digits, nine}
use Rattle.tc_base.proofs.decimal.decimals.Given as goal

abbrev pub invariant-loop-i : goal.invariant-loop-i
invariant-loop-i l = (l.value ≡ decimal (take l.i (nine (digits l.rest)))) × (l.value < 10 ^ l.i)
