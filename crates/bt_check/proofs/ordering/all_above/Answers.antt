use Rattle.std.proofs.Common.{◌∙◌, Some, Option, List, ℕ, arith, refl, sym, subst}
use Rattle.std.specs.List.{AllByRecursion}
use Rattle.bt_rows.specs.Orders.{before_by}
use Rattle.bt_rows.specs.Rules.{AtLeast}
use Rattle.bt_check.proofs.Orders.{transitive}
use Rattle.bt_check.proofs.Rests.{above_none, all_free, first_above, first_more}
use Rattle.bt_check.proofs.ordering.all_above.Goals as goal

pub returns-in_default : goal.returns-in_default
returns-in_default g c = λ asc. (λ _. subst (λ (o : Option (List ℕ)). AllByRecursion (λ x. AtLeast (before_by g.O.Order.cmp) o x.key) c.args.leaf.now.items) (sym c.in_default.is) (all_free c.args.leaf.now.items), λ _. refl)

pub returns-then-count-eq0 : goal.returns-then-count-eq0
returns-then-count-eq0 g c = λ asc. (λ _. above_none (λ x. AtLeast (before_by g.O.Order.cmp) c.args.bound.now x.key) c.args.leaf.now.items (omega (arith, c.len-count.ensures, c.if-count-eq0.true)), λ _. refl)

pub returns-then-is_under : goal.returns-then-is_under
returns-then-is_under g c = λ asc. (
  λ t. absurd cc,
  λ a.
      let more = first_more _ c.items.result.now _ c.args.leaf.now.items _ c.items.ensures.read (omega (arith, c.len-count.ensures, c.if-count-eq0.false)) c.next_item.ensures in
      let some = subst (λ (o : Option (List ℕ)). AllByRecursion (λ x. AtLeast (before_by g.O.Order.cmp) o x.key) c.args.leaf.now.items) c.in-Some.is a in
      absurd (let bad = c.if-is_under.ensures ∙ (subst (AllByRecursion (λ x. AtLeast (before_by g.O.Order.cmp) (Some c.in-Some.bound) x.key)) more some).0 in cc),
)

pub returns : goal.returns
returns g c = λ asc.
    let more = first_more _ c.items.result.now _ c.args.leaf.now.items _ c.items.ensures.read (omega (arith, c.len-count.ensures, c.if-count-eq0.false)) c.next_item.ensures in (
      λ _. subst (λ (o : Option (List ℕ)). AllByRecursion (λ x. AtLeast (before_by g.O.Order.cmp) o x.key) c.args.leaf.now.items) (sym c.in-Some.is)
          (first_above (before_by g.O.Order.cmp) (transitive g.O.Order.cmp g.met.O.Order.total) c.in-Some.bound c.args.leaf.now.items _ _ asc more (sym c.if-is_under.ensures)),
      λ _. refl,
    )
