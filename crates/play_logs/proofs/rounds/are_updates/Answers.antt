use Rattle.std.proofs.Common.{All, List, ℕ, subst}
use Rattle.std.proofs.lemmas.List.{take_all}
use Rattle.ty_ulog.specs.Updates.{IsUpdating}
use Rattle.play_logs.proofs.Adding.{updating_more}
use Rattle.play_logs.proofs.rounds.are_updates.Goals as goal

pub loop-request-preserved : goal.loop-request-preserved
loop-request-preserved c = record {
  updating =
      updating_more c.args.requests.now c.loop-request.request-index c.request-item.result c.loop-request-test.true c.request-item.is c.loop-request.invariant.updating
      (subst IsUpdating c.as_slice.ensures (c.in_ok-updates.ensures.updating.0 c.if-not-updates.false));
}

pub returns : goal.returns
returns c = λ yes. subst (All IsUpdating) (take_all c.loop-request.request-index c.args.requests.now c.loop-request-test.false) c.loop-request.invariant.updating
