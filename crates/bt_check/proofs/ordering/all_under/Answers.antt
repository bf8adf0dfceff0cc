use Rattle.std.proofs.Common.{◌≡◌, ◌∙◌, Some, None, Option, List, ℕ, ap, refl, sym, subst}
use Rattle.std.specs.Prelude.{option_map}
use Rattle.std.specs.List.{AllByRecursion}
use Rattle.bt_rows.specs.Orders.{before_by}
use Rattle.bt_rows.specs.Rules.{Under}
use Rattle.bt_check.specs.Leaves.{last_key}
use Rattle.bt_check.proofs.Orders.{none_above, transitive}
use Rattle.bt_check.proofs.Rests.{last_under, no_items}
use Rattle.bt_check.proofs.ordering.all_under.Goals as goal

pub returns-in_default : goal.returns-in_default
returns-in_default g c = λ asc.
    let none : last_key c.args.leaf.now.items ≡ None = sym c.last_key.ensures ∙ ap (option_map (λ k. k.now)) c.in_default.is in
    (λ _. subst (AllByRecursion (λ x. Under (before_by g.O.Order.cmp) x.key c.args.bound.now)) (sym (no_items c.args.leaf.now.items none)) tt, λ _. refl)

pub returns-in_default-bound : goal.returns-in_default-bound
returns-in_default-bound g c = λ asc.
    let some : Some c.in-Some.key.now ≡ last_key c.args.leaf.now.items = sym (ap (option_map (λ k. k.now)) c.in-Some.is) ∙ c.last_key.ensures in
    (λ t. absurd cc, λ a. absurd (none_above (before_by g.O.Order.cmp) c.args.leaf.now.items c.in-Some.key.now some (subst (λ (o : Option (List ℕ)). AllByRecursion (λ x. Under (before_by g.O.Order.cmp) x.key o) c.args.leaf.now.items) c.in_default-bound.is a)))

pub returns : goal.returns
returns g c = λ asc.
    let some : Some c.in-Some.key.now ≡ last_key c.args.leaf.now.items = sym (ap (option_map (λ k. k.now)) c.in-Some.is) ∙ c.last_key.ensures in
    let last = last_under (before_by g.O.Order.cmp) (transitive g.O.Order.cmp g.met.O.Order.total) c.in-Some-bound.bound c.args.leaf.now.items c.in-Some.key.now asc some in (
      λ t. subst (λ (o : Option (List ℕ)). AllByRecursion (λ x. Under (before_by g.O.Order.cmp) x.key o) c.args.leaf.now.items) (sym c.in-Some-bound.is) (last.0 (sym c.is_under.ensures ∙ t)),
      λ a. c.is_under.ensures ∙ last.1 (subst (λ (o : Option (List ℕ)). AllByRecursion (λ x. Under (before_by g.O.Order.cmp) x.key o) c.args.leaf.now.items) c.in-Some-bound.is a),
    )
