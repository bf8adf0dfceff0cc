use Rattle.std.proofs.Common.{subst, sym}
use Rattle.std.proofs.lemmas.Result.{IfOk-weaker}
use Rattle.td_plan.specs.declared.span.Span.{Span}
use Rattle.tc_table.specs.Searching.{NamesKeys}
use Rattle.tc_table.proofs.Asking.{all_tokens_keys, begin_keys, some_token_keys, value_keys}
use Rattle.tc_table.proofs.planning.lexical_keys.Goals as goal

pub returns-in-Value-clause-named : goal.returns-in-Value-clause-named
returns-in-Value-clause-named g c =
    IfOk-weaker _ _ (λ ks. NamesKeys g.M.S.Space g.M.Multi c.args.cond.now c.args.span.now c.args.tree.now c.args.space.now ks) (λ ks value. value_keys g.M.S.Space g.M.Multi c.args.cond.now c.args.span.now c.in-Value.cut c.args.tree.now c.args.space.now ks c.in-Value.is value) c.keys_inside.ensures.value

pub returns-in-Begin-clause-named : goal.returns-in-Begin-clause-named
returns-in-Begin-clause-named g c =
    IfOk-weaker _ _ (λ ks. NamesKeys g.M.S.Space g.M.Multi c.args.cond.now c.args.span.now c.args.tree.now c.args.space.now ks) (λ ks value. begin_keys g.M.S.Space g.M.Multi c.args.cond.now c.args.span.now c.in-Begin.cut c.args.tree.now c.args.space.now ks c.in-Begin.is value) c.keys_inside-in-Begin.ensures.value

pub returns-in-AllTokens-clause-named : goal.returns-in-AllTokens-clause-named
returns-in-AllTokens-clause-named g c =
    IfOk-weaker _ _ (λ ks. NamesKeys g.M.S.Space g.M.Multi c.args.cond.now c.args.span.now c.args.tree.now c.args.space.now ks) (λ ks named. subst (λ (x : Span). NamesKeys g.M.S.Space g.M.Multi c.args.cond.now x c.args.tree.now c.args.space.now ks) (sym c.in-AllTokens.is) (all_tokens_keys g.M.S.Space g.M.Multi c.args.cond.now c.args.tree.now c.args.space.now ks named)) c.token_keys.ensures.named

pub returns-in-SomeToken-clause-named : goal.returns-in-SomeToken-clause-named
returns-in-SomeToken-clause-named g c =
    IfOk-weaker _ _ (λ ks. NamesKeys g.M.S.Space g.M.Multi c.args.cond.now c.args.span.now c.args.tree.now c.args.space.now ks) (λ ks named. subst (λ (x : Span). NamesKeys g.M.S.Space g.M.Multi c.args.cond.now x c.args.tree.now c.args.space.now ks) (sym c.in-SomeToken.is) (some_token_keys g.M.S.Space g.M.Multi c.args.cond.now c.args.tree.now c.args.space.now ks named)) c.token_keys-in-SomeToken.ensures.named
