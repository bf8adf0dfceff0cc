use Rattle.std.proofs.Common.{refl}
use Rattle.bt_check.proofs.ordering.is_below.Goals as goal

pub returns-then-not-bound_under : goal.returns-then-not-bound_under
returns-then-not-bound_under g c = λ asc. (λ t. absurd cc, λ k. absurd (let t = c.if-not-bound_under.ensures.1 k.bounds in cc))

pub returns : goal.returns
returns g c = λ asc.
    let under = c.all_under.ensures asc in
    (λ t. record { bounds = c.if-not-bound_under.ensures.0 refl; items = under.0 t }, λ k. under.1 k.items)
