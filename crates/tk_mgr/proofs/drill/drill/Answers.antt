use Rattle.std.proofs.Common.{◌∙◌, rules}
use Rattle.ty_base.proofs.Refusals.{err_is}
use Rattle.ty_base.specs.Holding.{Laid}
use Rattle.tk_mgr.proofs.DrillEnds.{cut_off, failed, not_through, printed}
use Rattle.tk_mgr.proofs.drill.drill.Goals as goal

pub returns-in-Ok-clause-managed : goal.returns-in-Ok-clause-managed
returns-in-Ok-clause-managed g c = printed g.B.S.Space g.O.Sink g.B.Storage.holds g.B.Storage.reopens g.B.Storage.lines c.args.seed c.args.count _ _ _ c.make.ensures.moments c.as_slice.result.now (λ m h. c.as_slice.ensures ∙ c.in_ok-text.ensures.text m h) c.in_ok-text.ensures.last _ _ c.in-Ok.ensures.ok

pub returns-clause-managed : goal.returns-clause-managed
returns-clause-managed g c = cut_off g.B.S.Space g.O.Sink g.B.Storage.holds g.B.Storage.reopens g.B.Storage.lines c.args.seed c.args.count _ _ _ c.make.ensures.moments c.as_slice.result.now (λ m h. c.as_slice.ensures ∙ c.in_ok-text.ensures.text m h) c.in_ok-text.ensures.last _ _ c.in-Err.ensures.err

pub returns-in_err-text-clause-managed : goal.returns-in_err-text-clause-managed
returns-in_err-text-clause-managed g c = rw (err_is c.from_residual.result _ c.from_residual.ensures.1) (failed g.B.S.Space g.O.Sink g.B.Storage.holds g.B.Storage.reopens g.B.Storage.lines c.args.seed c.args.count _ _ _ c.make.ensures.moments c.in_err-text.field-0.0 _ (not_through _ (λ is. c.in_err-text.ensures.not_sink (search (rules, is)))))

pub returns-in-Ok-clause-laid : goal.returns-in-Ok-clause-laid
returns-in-Ok-clause-laid g c = λ l. printed g.B.S.Space g.O.Sink g.B.Storage.holds (Laid g.B.Storage.own g.B.Storage.layout l g.B.Storage.reopens) g.B.Storage.lines c.args.seed c.args.count _ _ _ (c.make.ensures.moved l) c.as_slice.result.now (λ m h. c.as_slice.ensures ∙ c.in_ok-text.ensures.text m (record { has = h.has; stand = h.stand.stand })) (c.in_ok-text.ensures.laid l) _ _ c.in-Ok.ensures.ok

pub returns-clause-laid : goal.returns-clause-laid
returns-clause-laid g c = λ l. cut_off g.B.S.Space g.O.Sink g.B.Storage.holds (Laid g.B.Storage.own g.B.Storage.layout l g.B.Storage.reopens) g.B.Storage.lines c.args.seed c.args.count _ _ _ (c.make.ensures.moved l) c.as_slice.result.now (λ m h. c.as_slice.ensures ∙ c.in_ok-text.ensures.text m (record { has = h.has; stand = h.stand.stand })) (c.in_ok-text.ensures.laid l) _ _ c.in-Err.ensures.err

pub returns-in_err-text-clause-laid : goal.returns-in_err-text-clause-laid
returns-in_err-text-clause-laid g c = λ l. rw (err_is c.from_residual.result _ c.from_residual.ensures.1) (failed g.B.S.Space g.O.Sink g.B.Storage.holds (Laid g.B.Storage.own g.B.Storage.layout l g.B.Storage.reopens) g.B.Storage.lines c.args.seed c.args.count _ _ _ (c.make.ensures.moved l) c.in_err-text.field-0.0 _ (not_through _ (λ is. c.in_err-text.ensures.not_sink (search (rules, is)))))
