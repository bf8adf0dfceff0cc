use Rattle.std.proofs.Common.{ap, true, false, List, ℕ, ◌++◌, ◌∷◌, [], drop}
use Rattle.bt_page.specs.declared.page.Leaf.{Leaf}
use Rattle.bt_rows.proofs.Ordered.{orders_are_strict}
use Rattle.bt_ways.proofs.Changing.{changed_new, changed_there}
use Rattle.bt_tree.proofs.Revaluings.{same_links, still_inside}
use Rattle.bt_tree.proofs.changing.change.Goals as goal

pub returns-then-not-hit-clause-changed : goal.returns-then-not-hit-clause-changed
returns-then-not-hit-clause-changed g c = λ are.
    let order = orders_are_strict g.O.Order.cmp g.met.O.Order.total g.met.O.Order.exact in
    let spot = rw c.if-not-hit.true at c.spot-place.ensures.spot in
    changed_new g.O.Order.cmp g.met.O.Order.total order c.args.last c.args.key.now c.args.value.now c.args.leaf.items _ are _ (spot are.ascends)
    (ap (λ (l : Leaf). l.items) (c.in_ok-with_item.ensures))

pub returns-then-last-clause-changed : goal.returns-then-last-clause-changed
returns-then-last-clause-changed g c = λ are.
    let order = orders_are_strict g.O.Order.cmp g.met.O.Order.total g.met.O.Order.exact in
    let spot = rw c.if-not-hit.false at c.spot-place.ensures.spot in
    rw c.if-last.true
    (changed_there g.O.Order.cmp g.met.O.Order.total order true c.args.key.now c.args.value.now c.args.leaf.items _ are _ (spot are.ascends)
    (λ was at. ap (λ (l : Leaf). l.items) (c.in_ok-with_value.ensures was at)))

pub returns-then-last-clause-links : goal.returns-then-last-clause-links
returns-then-last-clause-links g c =
    same_links (λ (vs : List (List ℕ)). vs ++ c.args.value.now ∷ []) _ c.args.leaf _ (c.spot-place.ensures.inside c.if-not-hit.false) (c.in_ok-with_value.ensures)

pub returns-then-last-clause-inside : goal.returns-then-last-clause-inside
returns-then-last-clause-inside g c =
    still_inside (λ (vs : List (List ℕ)). vs ++ c.args.value.now ∷ []) _ c.args.leaf _ (c.spot-place.ensures.inside c.if-not-hit.false) (c.in_ok-with_value.ensures)

pub returns-clause-changed : goal.returns-clause-changed
returns-clause-changed g c = λ are.
    let order = orders_are_strict g.O.Order.cmp g.met.O.Order.total g.met.O.Order.exact in
    let spot = rw c.if-not-hit.false at c.spot-place.ensures.spot in
    rw c.if-last.false
    (changed_there g.O.Order.cmp g.met.O.Order.total order false c.args.key.now c.args.value.now c.args.leaf.items _ are _ (spot are.ascends)
    (λ was at. ap (λ (l : Leaf). l.items) (c.in_ok-with_first.ensures was at)))

pub returns-clause-links : goal.returns-clause-links
returns-clause-links g c =
    same_links (λ (vs : List (List ℕ)). c.args.value.now ∷ drop 1 vs) _ c.args.leaf _ (c.spot-place.ensures.inside c.if-not-hit.false) (c.in_ok-with_first.ensures)

pub returns-clause-inside : goal.returns-clause-inside
returns-clause-inside g c =
    still_inside (λ (vs : List (List ℕ)). c.args.value.now ∷ drop 1 vs) _ c.args.leaf _ (c.spot-place.ensures.inside c.if-not-hit.false) (c.in_ok-with_first.ensures)
