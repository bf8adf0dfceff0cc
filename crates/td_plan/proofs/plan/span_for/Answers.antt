use Rattle.std.proofs.Common.{◌≡◌, List, ℕ, true, subst, sym}
use Rattle.std.specs.Prelude.{IfOk}
use Rattle.td_plan.specs.Choices.{serves}
use Rattle.td_plan.specs.Spans.{Covers}
use Rattle.td_plan.proofs.Planning.{serves_it}
use Rattle.td_plan.proofs.plan.span_for.Goals as goal

pub span_of-requires : goal.span_of-requires
span_of-requires c = subst (λ (e : List ℕ). serves c.args.index.now.kind c.args.cond.now.operator e ≡ true) (sym c.as_slice.ensures) (serves_it c.args.cond.now c.args.index.now c.requires)

pub returns : goal.returns
returns c = subst (λ (e : List ℕ). IfOk c.span_of.result (λ s. Covers c.args.index.now.kind s c.args.cond.now.operator e)) c.as_slice.ensures c.span_of.ensures
