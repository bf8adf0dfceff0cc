use Rattle.std.proofs.lemmas.Result.{IfOk-weaker}
use Rattle.std.proofs.Common.{subst}
use Rattle.tc_model.specs.declared.query.Cond.{Cond}
use Rattle.td_plan.specs.Plans.{IsCovered}
use Rattle.td_plan.specs.Spans.{Covers}
use Rattle.td_plan.specs.declared.choice.Indexed.{Indexed}
use Rattle.td_plan.proofs.Planning.{item_is, served_is, within}
use Rattle.td_plan.proofs.plan.span_at.Goals as goal

pub cond_at-cond-requires : goal.cond_at-cond-requires
cond_at-cond-requires c = within c.args.q.now.conds c.args.choice.cond _ c.requires.served.1

pub index_at-index-requires : goal.index_at-index-requires
index_at-index-requires c = within c.args.indexes.now c.args.choice.index _ c.requires.served.2.here.1

pub span_for-requires : goal.span_for-requires
span_for-requires c = served_is c.args.q.now c.args.indexes.now c.args.choice _ _ c.requires c.cond_at-cond.ensures c.index_at-index.ensures

pub returns : goal.returns
returns c =
    IfOk-weaker _ _ (λ s. IsCovered c.args.q.now c.args.indexes.now c.args.choice s) (λ s covers. λ cond index is at.
    subst (λ (d : Cond). Covers index.kind s d.operator d.expression) (item_is c.args.q.now.conds c.args.choice.cond c.cond_at-cond.result.now cond c.cond_at-cond.ensures is)
    (subst (λ (i : Indexed). Covers i.kind s c.cond_at-cond.result.now.operator c.cond_at-cond.result.now.expression) (item_is c.args.indexes.now c.args.choice.index c.index_at-index.result.now index c.index_at-index.ensures at) covers)) c.span_for.ensures
