use Rattle.std.proofs.Common.{refl}
use Rattle.bt_check.proofs.ordering.in_leaf.Goals as goal

pub returns-then-not-ascends : goal.returns-then-not-ascends
returns-then-not-ascends g c = (λ t. absurd cc, λ l. absurd (let t = c.if-not-ascends.ensures.1 l.ascends in cc))

pub returns : goal.returns
returns g c =
    let asc = c.if-not-ascends.ensures.0 refl in
    let above = c.all_above.ensures asc in
    (λ t. record { ascends = asc; above = above.0 t }, λ l. above.1 l.above)
