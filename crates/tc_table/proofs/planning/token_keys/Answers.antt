use Rattle.std.proofs.Common.{◌∙◌, ap, true, false}
use Rattle.std.proofs.lemmas.Result.{IfOk-weaker}
use Rattle.tc_model.specs.Texts.{distinct, tokens}
use Rattle.tc_model.specs.declared.query.IndexKind.TheVariants as kinds
use Rattle.tc_table.specs.Searching.{AsksTokens}
use Rattle.tc_table.proofs.Asking.{both_weaker}
use Rattle.tc_table.proofs.Naming.{some_asked, tokens_named}
use Rattle.tc_table.proofs.planning.token_keys.Goals as goal

pub returns-then-all-clause-named : goal.returns-then-all-clause-named
returns-then-all-clause-named g c =
    both_weaker _ (λ ks. AsksTokens g.M.S.Space g.M.Multi c.args.cond.now c.args.all c.args.tree.now c.args.space.now ks) (λ ks some named. λ rows are is st.
    tokens_named true c.args.cond.now c.as_slice-wanted.result.now rows ks (c.as_slice-wanted.ensures ∙ (c.in_ok-asked.ensures ∙ ap (λ e. distinct (tokens e)) c.as_slice.ensures)) (is ∙ c.if-all.true) some (named kinds.Token c.args.cond.now.column rows are st)) c.having_all.ensures.some c.having_all.ensures.named

pub returns-clause-named : goal.returns-clause-named
returns-clause-named g c =
    IfOk-weaker _ _ (λ ks. AsksTokens g.M.S.Space g.M.Multi c.args.cond.now c.args.all c.args.tree.now c.args.space.now ks) (λ ks named. λ rows are is st.
    tokens_named false c.args.cond.now c.as_slice-wanted.result.now rows ks (c.as_slice-wanted.ensures ∙ (c.in_ok-asked.ensures ∙ ap (λ e. distinct (tokens e)) c.as_slice.ensures)) (is ∙ c.if-all.false) (some_asked c.as_slice-wanted.result.now) (named kinds.Token c.args.cond.now.column rows are st)) c.having_some.ensures.named
