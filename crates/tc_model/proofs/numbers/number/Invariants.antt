use Rattle.std.proofs.Common.{◌≡◌, ◌<◌, ◌^◌, drop, true}
use Rattle.std.specs.Prelude.{◌*◌, ◌+◌, ◌-◌}
use Rattle.std.specs.List.{list_all, fold}
use Rattle.tc_base.specs.Decimal.{is_digit}
use Rattle.tc_model.specs.Texts.{number}
use Rattle.tc_model.proofs.numbers.number.Given as goal

abbrev pub invariant-loop-b : goal.invariant-loop-b
invariant-loop-b l = record {
  value : fold (λ n d. n * 10 + (d - 48)) l.n (drop l.b-index l.digits) ≡ number l.digits;
  digits : list_all is_digit (drop l.b-index l.digits) ≡ true;
  most : l.n < 10 ^ l.b-index;
}
