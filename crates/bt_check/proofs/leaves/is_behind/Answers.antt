use Rattle.std.proofs.Common.{◌↔◌, refl, sym, subst}
use Rattle.std.specs.Prelude.{IsTrue}
use Rattle.bt_rows.specs.Orders.{before_by}
use Rattle.bt_check.specs.Leaves.{EndAscends, IsBehind, at_place, last_at}
use Rattle.bt_check.proofs.leaves.is_behind.Goals as goal

pub returns-in_default : goal.returns-in_default
returns-in_default g c = subst (λ o. EndAscends (before_by g.O.Order.cmp) (last_at o) → IsTrue c.in_leaf.result ↔ IsBehind (before_by g.O.Order.cmp) (last_at o) (at_place c.args.m.now)) (sym c.in_default.is) (λ asc. c.in_leaf.ensures)

pub returns-then-not-in_leaf : goal.returns-then-not-in_leaf
returns-then-not-in_leaf g c = λ asc. (
  λ t. absurd cc,
  λ b. absurd (let own = subst (λ o. IsBehind (before_by g.O.Order.cmp) (last_at o) (at_place c.args.m.now)) c.in-Some.is b in let t = c.if-not-in_leaf.ensures.1 own.0 in cc),
)

pub returns : goal.returns
returns g c =
    subst (λ o. EndAscends (before_by g.O.Order.cmp) (last_at o) → IsTrue c.is_below.result ↔ IsBehind (before_by g.O.Order.cmp) (last_at o) (at_place c.args.m.now)) (sym c.in-Some.is)
    (λ asc. let below = c.is_below.ensures asc in (λ t. (c.if-not-in_leaf.ensures.0 refl, below.0 t), λ b. below.1 b.1))
