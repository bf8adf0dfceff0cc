use Rattle.std.proofs.Common.{◌∙◌, List, Option, ap, subst}
use Rattle.std.specs.Prelude.{IfOk, MatchOption}
use Rattle.td_plan.specs.declared.choice.Indexed.{Indexed}
use Rattle.td_plan.specs.declared.plan.Plan.{Plan}
use Rattle.tc_table.specs.Searching.{IsAlone, IsExact, indexed}
use Rattle.tc_table.proofs.table.Table.plan_exactly.Goals as goal

pub returns-clause-exact : goal.returns-clause-exact
returns-clause-exact g c =
    subst (λ (l : List Indexed). IfOk c.exact_plan.result (λ (o : Option Plan). MatchOption o (IsExact c.args.q.now l → ⊥) (λ (p : Plan). IsAlone c.args.q.now l p.choice))) (c.in_ok-indexes.ensures ∙ ap indexed c.as_slice.ensures.value) c.exact_plan.ensures.exact
