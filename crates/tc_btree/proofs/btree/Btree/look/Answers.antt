use Rattle.std.proofs.Common.{◌++◌, ℕ, List, [], Option, ap, sym, ◌∙◌}
use Rattle.std.specs.Prelude.{unwrap_or}
use Rattle.tc_btree.proofs.Looking.{blames_err, given_cat, given_keep, given_over, kept, looked_asks, looked_refl, tells_err}
use Rattle.tc_btree.proofs.btree.Btree.look.Goals as goal

pub returns-in-Over-clause-tells : goal.returns-in-Over-clause-tells
returns-in-Over-clause-tells g c = (λ ps h. given_over c.args.mode c.args.key.now c.args.value.now ps c.in-Over.is, λ e. absurd cc)

pub returns-in-Over-clause-looks : goal.returns-in-Over-clause-looks
returns-in-Over-clause-looks g c = looked_refl g.R.S.Space g.R.Records g.O.Order c.args.self.now c.args.space.now c.requires.sound

pub returns-in_err-holds-in-Keep-clause-tells : goal.returns-in_err-holds-in-Keep-clause-tells
returns-in_err-holds-in-Keep-clause-tells g c = tells_err g.R.S.Space g.R.Records g.O.Order c.args.mode c.args.key.now c.args.value.now c.from_residual.result c.in_err-holds-in-Keep.field-0.0 c.args.self.now c.args.space.now c.from_residual.ensures.1

pub returns-in_err-holds-in-Keep-clause-looks : goal.returns-in_err-holds-in-Keep-clause-looks
returns-in_err-holds-in-Keep-clause-looks g c = looked_asks g.R.S.Space g.R.Records g.O.Order _ _ _ _ _ _ _ c.holds.ensures.asks

pub returns-in_err-holds-in-Keep-clause-cause : goal.returns-in_err-holds-in-Keep-clause-cause
returns-in_err-holds-in-Keep-clause-cause g c = blames_err g.R.S.Space c.from_residual.result c.in_err-holds-in-Keep.field-0.0 _ _ c.from_residual.ensures.1 c.in_err-holds-in-Keep.ensures.cause

pub returns-then-branch-clause-tells : goal.returns-then-branch-clause-tells
returns-then-branch-clause-tells g c = (tt, λ e. kept g.R.S.Space g.R.Records g.O.Order c.args.mode c.args.key.now c.args.self.now c.args.space.now _ c.in-Keep.is c.if-branch.true c.in_ok-holds-in-Keep.ensures.value)

pub returns-then-branch-clause-looks : goal.returns-then-branch-clause-looks
returns-then-branch-clause-looks g c = looked_asks g.R.S.Space g.R.Records g.O.Order _ _ _ _ _ _ _ c.holds.ensures.asks

pub returns-in_err-found-in-Cat-clause-tells : goal.returns-in_err-found-in-Cat-clause-tells
returns-in_err-found-in-Cat-clause-tells g c = tells_err g.R.S.Space g.R.Records g.O.Order c.args.mode c.args.key.now c.args.value.now c.from_residual-in_err-found-in-Cat.result c.in_err-found-in-Cat.field-0.0 c.args.self.now c.args.space.now c.from_residual-in_err-found-in-Cat.ensures.1

pub returns-in_err-found-in-Cat-clause-looks : goal.returns-in_err-found-in-Cat-clause-looks
returns-in_err-found-in-Cat-clause-looks g c = looked_asks g.R.S.Space g.R.Records g.O.Order _ _ _ _ _ _ _ c.first_value.ensures.asks

pub returns-in_err-found-in-Cat-clause-cause : goal.returns-in_err-found-in-Cat-clause-cause
returns-in_err-found-in-Cat-clause-cause g c = blames_err g.R.S.Space c.from_residual-in_err-found-in-Cat.result c.in_err-found-in-Cat.field-0.0 _ _ c.from_residual-in_err-found-in-Cat.ensures.1 c.in_err-found-in-Cat.ensures.cause

pub returns-in-Ok-clause-tells : goal.returns-in-Ok-clause-tells
returns-in-Ok-clause-tells g c =
    (λ ps h. given_cat c.args.mode c.args.key.now c.args.value.now _ ps c.in-Cat.is (c.in-Ok.ensures ∙ ap (λ (o : Option (List ℕ)). unwrap_or o [] ++ c.args.value.now) (c.in_ok-found-in-Cat.ensures.value ps h)), λ e. absurd cc)

pub returns-in-Ok-clause-looks : goal.returns-in-Ok-clause-looks
returns-in-Ok-clause-looks g c = looked_asks g.R.S.Space g.R.Records g.O.Order _ _ _ _ _ _ _ c.first_value.ensures.asks

pub returns-in_default-clause-looks : goal.returns-in_default-clause-looks
returns-in_default-clause-looks g c = looked_asks g.R.S.Space g.R.Records g.O.Order _ _ _ _ _ _ _ c.first_value.ensures.asks

pub returns-else-branch-clause-tells : goal.returns-else-branch-clause-tells
returns-else-branch-clause-tells g c = (λ ps h. given_keep c.args.mode c.args.key.now c.args.value.now ps c.in-Keep.is (sym c.if-branch.false ∙ c.in_ok-holds-in-Keep.ensures.value ps h), λ e. absurd cc)

pub returns-else-branch-clause-looks : goal.returns-else-branch-clause-looks
returns-else-branch-clause-looks g c = looked_asks g.R.S.Space g.R.Records g.O.Order _ _ _ _ _ _ _ c.holds.ensures.asks
