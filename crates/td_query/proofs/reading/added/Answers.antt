use Rattle.std.specs.Prelude.{Some}
use Rattle.td_query.specs.declared.reading.Draft.{Draft}
use Rattle.std.proofs.Common.{◌++◌, ◌∷◌, [], refl, sym, ap, subst}
use Rattle.tc_model.specs.Queries.{Term}
use Rattle.td_query.specs.Drafts.{term_seen, IsDraft}
use Rattle.td_query.proofs.Drafting.{with_condition, with_ordering, with_limit, with_deed}
use Rattle.td_query.proofs.reading.added.Goals as goal

pub returns-in_ok-push-in-Condition : goal.returns-in_ok-push-in-Condition
returns-in_ok-push-in-Condition c = λ ts i.
    let e : Draft = record { conds = c.push.new.self; sort = c.args.draft.sort; limit = c.args.draft.limit; deeds = c.args.draft.deeds } in
    subst (λ (t : Term). IsDraft e (ts ++ t ∷ [])) (sym (ap term_seen c.in-Condition.is)) (with_condition c.args.draft e ts c.in-Condition.cond i c.in_ok-push-in-Condition.ensures.ok refl refl refl)

pub returns-in-Ordering : goal.returns-in-Ordering
returns-in-Ordering c = λ ts i.
    let e : Draft = record { conds = c.args.draft.conds; sort = Some c.in-Ordering.sort; limit = c.args.draft.limit; deeds = c.args.draft.deeds } in
    subst (λ (t : Term). IsDraft e (ts ++ t ∷ [])) (sym (ap term_seen c.in-Ordering.is)) (with_ordering c.args.draft e ts c.in-Ordering.sort i refl refl refl refl)

pub returns-in-Limit : goal.returns-in-Limit
returns-in-Limit c = λ ts i.
    let e : Draft = record { conds = c.args.draft.conds; sort = c.args.draft.sort; limit = Some (c.in-Limit.maximum, c.in-Limit.skip); deeds = c.args.draft.deeds } in
    subst (λ (t : Term). IsDraft e (ts ++ t ∷ [])) (sym (ap term_seen c.in-Limit.is)) (with_limit c.args.draft e ts c.in-Limit.maximum c.in-Limit.skip i refl refl refl refl)

pub returns-in_ok-push-in-Asks : goal.returns-in_ok-push-in-Asks
returns-in_ok-push-in-Asks c = λ ts i.
    let e : Draft = record { conds = c.args.draft.conds; sort = c.args.draft.sort; limit = c.args.draft.limit; deeds = c.push-in-Asks.new.self } in
    subst (λ (t : Term). IsDraft e (ts ++ t ∷ [])) (sym (ap term_seen c.in-Asks.is)) (with_deed c.args.draft e ts c.in-Asks.deed i refl refl refl c.in_ok-push-in-Asks.ensures.ok)
