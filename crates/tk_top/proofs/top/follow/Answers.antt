use Rattle.std.proofs.Common.{[], refl, sym, ◌∙◌}
use Rattle.std.specs.Prelude.{Some}
use Rattle.tk_top.specs.Words.{asked_in}
use Rattle.tk_top.proofs.Asking.{asked_memory, asked_none, asked_some}
use Rattle.tk_top.proofs.LoggedRuns.{tells_none}
use Rattle.tk_top.proofs.top.follow.Goals as goal

pub returns-in-Some : goal.returns-in-Some
returns-in-Some g c = let run = c.carry_out.ensures in (
  run.0,
  asked_some g.S.V.Volume g.W.Wire g.O.Sink (asked_in (Some c.args.order)) run.0 c.carry_out.result.end c.in-Some.asked c.args.vol c.carry_out.result.vol c.args.wire.now c.carry_out.new.wire c.args.out.now c.carry_out.new.out _ _ (sym c.in-Ok.ensures.asked ∙ c.in-Some.is) run.1,
  run.2,
)

pub returns-in-None : goal.returns-in-None
returns-in-None g c = ([], asked_none g.S.V.Volume g.W.Wire g.O.Sink (asked_in (Some c.args.order)) c.args.vol c.args.wire.now c.args.out.now _ (sym c.in-Ok.ensures.asked ∙ c.in-None.is), tells_none g.E.Sink [] c.args.err.now refl)

pub returns-in-Err : goal.returns-in-Err
returns-in-Err g c = ([], asked_memory g.S.V.Volume g.W.Wire g.O.Sink (asked_in (Some c.args.order)) c.args.vol c.args.wire.now c.args.out.now _, tells_none g.E.Sink [] c.args.err.now refl)
