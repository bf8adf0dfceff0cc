use Rattle.std.proofs.Common.{◌≡◌, ◌≤◌, take, min}
use Rattle.tc_base.specs.Decimal.{decimal}
use Rattle.ty_memc.proofs.words.value_of.Given as goal

abbrev pub invariant-loop-i : goal.invariant-loop-i
invariant-loop-i l = (l.value ≡ min 18446744073709551616 (decimal (take l.i l.text))) × (l.value ≤ 18446744073709551616)
