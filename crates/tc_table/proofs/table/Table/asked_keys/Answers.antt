use Rattle.std.proofs.Common.{◌∙◌, ◌≤◌, List, length, ap, subst}
use Rattle.std.proofs.lemmas.Result.{IfOk-weaker}
use Rattle.tc_model.specs.Contents.{Rows}
use Rattle.td_plan.specs.Choices.{IsChosen, NoneServed}
use Rattle.td_plan.specs.Plans.{IsCovered}
use Rattle.td_plan.specs.declared.choice.Indexed.{Indexed}
use Rattle.tc_table.specs.Searching.{HasAllUnder, OfPlanned, indexed}
use Rattle.tc_table.specs.Tables.{Holds}
use Rattle.tc_table.proofs.Asked.{all_under, none_planned, planned_few, planned_under}
use Rattle.tc_table.proofs.Holding.{table_stays}
use Rattle.tc_table.proofs.table.Table.asked_keys.Goals as goal

pub named_keys-requires-clause-chosen : goal.named_keys-requires-clause-chosen
named_keys-requires-clause-chosen g c = subst (λ (l : List Indexed). IsChosen c.args.q.now l c.in-Some.plan.choice) (c.in_ok-names.ensures ∙ ap indexed c.as_slice.ensures.value) (rw c.in-Some.is at c.in_ok-plan.ensures.chosen)

pub named_keys-requires-clause-covers : goal.named_keys-requires-clause-covers
named_keys-requires-clause-covers g c = subst (λ (l : List Indexed). IsCovered c.args.q.now l c.in-Some.plan.choice c.in-Some.plan.span) (c.in_ok-names.ensures ∙ ap indexed c.as_slice.ensures.value) (rw c.in-Some.is at c.in_ok-plan.ensures.covers)

pub returns-clause-all : goal.returns-clause-all
returns-clause-all g c =
    IfOk-weaker _ _ (λ ks. (rows : Rows) → Holds g.R.S.Space g.R.Records g.L.Multi g.D.Multi c.args.self.now c.args.space.now rows → HasAllUnder c.args.q.now rows ks)
    (λ ks named. λ rows h. planned_under g.R.S.Space g.R.Records g.L.Multi g.D.Multi c.args.q.now c.args.self.now c.in-Some.plan.choice c.in-Some.plan.span c.args.space.now ks
    (subst (λ (l : List Indexed). IsChosen c.args.q.now l c.in-Some.plan.choice) (c.in_ok-names.ensures ∙ ap indexed c.as_slice.ensures.value) (rw c.in-Some.is at c.in_ok-plan.ensures.chosen))
    (subst (λ (l : List Indexed). IsCovered c.args.q.now l c.in-Some.plan.choice c.in-Some.plan.span) (c.in_ok-names.ensures ∙ ap indexed c.as_slice.ensures.value) (rw c.in-Some.is at c.in_ok-plan.ensures.covers)) named rows h) c.named_keys.ensures.named

pub returns-clause-planned : goal.returns-clause-planned
returns-clause-planned g c =
    IfOk-weaker _ _ (λ ks. OfPlanned g.R.S.Space g.R.Records g.L.Multi g.D.Multi c.args.q.now c.args.self.now c.args.space.now (λ n. length ks ≤ n))
    (λ ks named. planned_few g.R.S.Space g.R.Records g.L.Multi g.D.Multi c.args.q.now c.args.self.now c.in-Some.plan.choice c.args.space.now ks
    (subst (λ (l : List Indexed). IsChosen c.args.q.now l c.in-Some.plan.choice) (c.in_ok-names.ensures ∙ ap indexed c.as_slice.ensures.value) (rw c.in-Some.is at c.in_ok-plan.ensures.chosen)) named) c.named_keys.ensures.named

pub returns-in_default-clause-all : goal.returns-in_default-clause-all
returns-in_default-clause-all g c =
    IfOk-weaker _ _ (λ ks. (rows : Rows) → Holds g.R.S.Space g.R.Records g.L.Multi g.D.Multi c.args.self.now c.args.space.now rows → HasAllUnder c.args.q.now rows ks)
    (λ ks value. λ rows h. all_under c.args.q.now rows ks (value rows h)) c.keys.ensures.value

pub returns-in_default-clause-planned : goal.returns-in_default-clause-planned
returns-in_default-clause-planned g c =
    IfOk-weaker _ _ (λ ks. OfPlanned g.R.S.Space g.R.Records g.L.Multi g.D.Multi c.args.q.now c.args.self.now c.args.space.now (λ n. length ks ≤ n))
    (λ ks value. none_planned g.R.S.Space g.R.Records g.L.Multi g.D.Multi c.args.q.now c.args.self.now c.args.space.now (λ n. length ks ≤ n)
    (subst (λ (l : List Indexed). NoneServed c.args.q.now l (length c.args.q.now.conds)) (c.in_ok-names.ensures ∙ ap indexed c.as_slice.ensures.value) (rw c.in_default.is at c.in_ok-plan.ensures.chosen))) c.keys.ensures.value

pub returns-in_err-names-clause-stays : goal.returns-in_err-names-clause-stays
returns-in_err-names-clause-stays g c = table_stays g.R.S.Space g.R.Records g.L.Multi g.D.Multi c.args.self.now

pub returns-in_err-plan-clause-stays : goal.returns-in_err-plan-clause-stays
returns-in_err-plan-clause-stays g c = table_stays g.R.S.Space g.R.Records g.L.Multi g.D.Multi c.args.self.now
