use Rattle.std.proofs.Common.{ℕ, List, subst}
use Rattle.std.specs.Prelude.{Some}
use Rattle.tc_base.specs.declared.request.Request.TheVariants.{Out}
use Rattle.ty_base.specs.Holding.{Laid}
use Rattle.tk_mgr.specs.Asking.{CarriesOf}
use Rattle.tk_mgr.proofs.changing.take_out.Goals as goal

pub returns-clause-laid : goal.returns-clause-laid
returns-clause-laid g c = λ l. let b = g.B.Storage in
    subst (λ (k : List ℕ). CarriesOf g.B.S.Space b.holds (Laid b.own b.layout l b.reopens) (Some (Out k)) c.change.result c.args.base.now c.args.space.now c.change.new.space) c.new-key.ensures (c.change.ensures.laid l)
