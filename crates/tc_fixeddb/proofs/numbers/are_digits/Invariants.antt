use Rattle.std.proofs.Common.{◌≡◌, drop}
use Rattle.std.specs.List.{list_all}
use Rattle.tc_base.specs.Decimal.{is_digit}
use Rattle.tc_fixeddb.proofs.numbers.are_digits.Given as goal

abbrev pub invariant-loop-b : goal.invariant-loop-b
invariant-loop-b l = list_all is_digit l.text ≡ list_all is_digit (drop l.b-index l.text)
