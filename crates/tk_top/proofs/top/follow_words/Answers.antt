use Rattle.std.proofs.Common.{[], refl, sym, ap, subst, ◌∙◌}
use Rattle.std.specs.Prelude.{Option}
use Rattle.tk_words.specs.Words.{texts}
use Rattle.tk_words.specs.declared.order.CommandLine.{CommandLine}
use Rattle.tk_top.specs.Top.{RunsAsked}
use Rattle.tk_top.specs.Words.{asked_in, asked_of}
use Rattle.tk_top.proofs.Asking.{asked_memory, asked_none}
use Rattle.tk_top.proofs.LoggedRuns.{tells_none}
use Rattle.tk_top.proofs.top.follow_words.Goals as goal

pub returns-in-Err : goal.returns-in-Err
returns-in-Err g c = ([], asked_memory g.S.V.Volume g.W.Wire g.O.Sink (asked_of (texts c.args.words.now.items)) c.args.vol c.args.wire.now c.args.out.now _, tells_none g.E.Sink [] c.args.err.now refl)

pub returns-in-Some : goal.returns-in-Some
returns-in-Some g c = let run = c.follow.ensures in (
  run.0,
  subst (λ (o : Option CommandLine). RunsAsked g.S.V.Volume g.W.Wire g.O.Sink (asked_in o) run.0 c.follow.result.end c.args.vol c.follow.result.vol c.args.wire.now c.follow.new.wire c.args.out.now c.follow.new.out (g.K.Clock.answers c.args.clock.now) (g.K.Clock.answers c.follow.new.clock)) (sym c.in-Some.is ∙ c.in-Ok.ensures) run.1,
  run.2,
)

pub returns-in-None : goal.returns-in-None
returns-in-None g c = ([], asked_none g.S.V.Volume g.W.Wire g.O.Sink (asked_of (texts c.args.words.now.items)) c.args.vol c.args.wire.now c.args.out.now _ (ap (λ (o : Option CommandLine). asked_in o) (sym c.in-Ok.ensures ∙ c.in-None.is)), tells_none g.E.Sink [] c.args.err.now refl)
