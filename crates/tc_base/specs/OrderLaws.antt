-- Both orders are total, and tie only on equal keys.
use Rattle.std.specs.Prelude.{◌≡◌, Bool, true, false}
use Rattle.std.specs.declared.cmp.Ordering.{Ordering}
use Rattle.std.specs.declared.cmp.Ordering.TheVariants.{Less, Equal, Greater}
use Rattle.std.specs.Ordering.{int_cmp, ordering_then}
use Rattle.std.specs.Cmp.{IsTotalOrder, int_cmp_total, on_total, then_total}
use Rattle.std.specs.Cmp.Lexicographic.{nat_list_cmp_total}
use Rattle.std.proofs.lemmas.Map.Lookups.{CmpEqualImpliesEq, exact_bytes}
use Rattle.tc_base.specs.Orders.{lexical, key_number, by_number, order}

pub by_number_total : IsTotalOrder by_number
by_number_total = then_total (on_total key_number int_cmp_total) nat_list_cmp_total

second_equal : (o p : Ordering) → ordering_then o p ≡ Equal → p ≡ Equal
second_equal Less p e = absurd cc
second_equal Equal p e = e
second_equal Greater p e = absurd cc

pub by_number_exact : CmpEqualImpliesEq by_number
by_number_exact x y e = exact_bytes x y (second_equal (int_cmp (key_number x) (key_number y)) (lexical x y) e)

pub order_total : (decimal : Bool) → IsTotalOrder (order decimal)
order_total true = by_number_total
order_total false = nat_list_cmp_total

pub order_exact : (decimal : Bool) → CmpEqualImpliesEq (order decimal)
order_exact true = by_number_exact
order_exact false = exact_bytes
