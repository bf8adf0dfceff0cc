-- The order of a trait is a strict one.
use Rattle.std.proofs.Common.{◌≡◌, true, false, refl, sym, ap, ◌∙◌}
use Rattle.std.specs.declared.cmp.Ordering.{Ordering}
use Rattle.std.specs.declared.cmp.Ordering.TheVariants.{Less, Equal, Greater}
use Rattle.std.specs.Ordering.{is_lt, ordering_reverse}
use Rattle.bt_rows.specs.Laws.{OrdersAreStrict}

less_of : (o : Ordering) → is_lt o ≡ true → o ≡ Less
less_of Less e = refl
less_of Equal e = absurd cc
less_of Greater e = absurd cc

not_itself : (o : Ordering) → o ≡ ordering_reverse o → is_lt o ≡ false
not_itself Less e = absurd cc
not_itself Equal e = refl
not_itself Greater e = refl

neither : (o p : Ordering) → o ≡ ordering_reverse p → is_lt o ≡ false → is_lt p ≡ false → o ≡ Equal
neither o Less e a b = absurd cc
neither o Equal e a b = e
neither o Greater e a b = absurd (let bad = sym a ∙ ap is_lt e in cc)

pub orders_are_strict : OrdersAreStrict
orders_are_strict cmp total exact = record {
  strict = λ x. not_itself (cmp x x) (total.antisymm x x);
  trans = λ x y z a b. ap is_lt (total.trans x y z (less_of (cmp x y) a) (less_of (cmp y z) b));
  total = λ x y a b. exact x y (neither (cmp x y) (cmp y x) (total.antisymm x y) a b);
}
