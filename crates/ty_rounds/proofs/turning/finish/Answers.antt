use Rattle.ty_base.proofs.Refusals.{err_is}
use Rattle.ty_rounds.proofs.Alone.{alone_done, alone_wire}
use Rattle.ty_rounds.proofs.Few.{few_then}
use Rattle.ty_rounds.proofs.Finishing.{sends_only, finished, finish_failed}
use Rattle.ty_rounds.proofs.Links.{keeps_then}
use Rattle.ty_rounds.proofs.turning.finish.Goals as goal

pub returns-in_err-deliver_all-clause-told : goal.returns-in_err-deliver_all-clause-told
returns-in_err-deliver_all-clause-told g c = sends_only g.S.Space g.W.Wire c.args.logged.now _ _ _ _ _ _ _ c.from_residual.result c.from_residual.ensures.0 c.deliver_all.ensures.wire_stays.given c.deliver_all.ensures.reads c.deliver_all.ensures.told

pub returns-clause-told : goal.returns-clause-told
returns-clause-told g c =
    let d = c.in_ok-deliver_all.ensures in
    let e = c.in_ok-close_over.ensures in
    finished g.S.Space g.W.Wire c.args.logged.now _ _ _ _ _ _ _ _ d.told e.told c.deliver_all.ensures.wire_stays.conns c.deliver_all.ensures.wire_stays.given c.close_over.ensures.given c.deliver_all.ensures.reads e.few.0 (few_then _ _ _ d.few e.few.1) e.few.2.calm (keeps_then _ _ _ d.links e.links)

pub returns-in_err-close_over-clause-told : goal.returns-in_err-close_over-clause-told
returns-in_err-close_over-clause-told g c = finish_failed g.S.Space g.W.Wire c.args.logged.now _ _ _ _ _ _ _ _ _ c.from_residual-in_err-close_over.result c.from_residual-in_err-close_over.ensures.0 c.in_ok-deliver_all.ensures.told c.in_err-close_over.ensures.told c.deliver_all.ensures.wire_stays.conns c.deliver_all.ensures.wire_stays.given c.close_over.ensures.given c.deliver_all.ensures.reads

pub returns-in_err-deliver_all-clause-alone : goal.returns-in_err-deliver_all-clause-alone
returns-in_err-deliver_all-clause-alone g c = rw (err_is c.from_residual.result _ c.from_residual.ensures.1) c.in_err-deliver_all.ensures.alone

pub returns-in_err-close_over-clause-alone : goal.returns-in_err-close_over-clause-alone
returns-in_err-close_over-clause-alone g c = alone_wire c.args.logged.now _ c.from_residual-in_err-close_over.ensures.1

pub returns-clause-alone : goal.returns-clause-alone
returns-clause-alone g c = alone_done c.args.logged.now
