use Rattle.std.proofs.Common.{subst}
use Rattle.std.specs.Prelude.{Some}
use Rattle.tc_base.specs.declared.request.Request.{Request}
use Rattle.ty_base.proofs.Refusals.{err_is}
use Rattle.ty_base.specs.Holding.{Laid}
use Rattle.tk_mgr.specs.Asking.{CarriesOf}
use Rattle.tk_mgr.specs.Tasks.{out_request}
use Rattle.tk_mgr.proofs.Ends.{carries_none}
use Rattle.tk_mgr.proofs.searching.search_out.Goals as goal

pub returns-in_err-request-clause-laid : goal.returns-in_err-request-clause-laid
returns-in_err-request-clause-laid g c = λ l m h. let b = g.B.Storage in
    rw (err_is c.from_residual.result _ c.from_residual.ensures.1) (carries_none g.B.S.Space (Laid b.own b.layout l b.reopens) (Some (out_request c.args.wanted.now)) c.args.space.now m)

pub returns-clause-laid : goal.returns-clause-laid
returns-clause-laid g c = λ l. let b = g.B.Storage in
    subst (λ (r : Request). CarriesOf g.B.S.Space b.holds (Laid b.own b.layout l b.reopens) (Some r) c.change.result c.args.base.now c.args.space.now c.change.new.space) c.in_ok-request.ensures (c.change.ensures.laid l)
