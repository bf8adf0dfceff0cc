-- The number that digits spell, up to a bound.
use Rattle.std.proofs.Common.{◌≡◌, ℕ, ◌+◌, ◌-◌, ◌*◌, ◌<◌, min, List, [], length, take, get_or, refl, arith}
use Rattle.std.proofs.lemmas.List.Sums.{fold_more}
use Rattle.tc_base.specs.Decimal.{decimal}

pub decimal-nil : decimal [] ≡ 0
unfolding decimal
decimal-nil = refl

decimal_more : (ds : List ℕ) (i : ℕ) → i < length ds → decimal (take (i + 1) ds) ≡ decimal (take i ds) * 10 + (get_or ds i 0 - 48)
unfolding decimal
decimal_more ds i h = fold_more (λ n d. n * 10 + (d - 48)) 0 ds i 0 h

pub value_more : (text : List ℕ) (i v d : ℕ) → i < length text → v ≡ min 18446744073709551616 (decimal (take i text)) → d ≡ get_or text i 0 - 48 → min (v * 10 + d) 18446744073709551616 ≡ min 18446744073709551616 (decimal (take (i + 1) text))
value_more text i v d less value byte = rw (decimal_more text i less) (omega (arith, value, byte))
