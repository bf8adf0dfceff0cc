use Rattle.std.proofs.Common.{[], refl, sym, subst}
use Rattle.tk_top.specs.Says.{saying}
use Rattle.tk_top.specs.Works.{WorksOn}
use Rattle.tk_top.proofs.LoggedRuns.{tells_none}
use Rattle.tk_top.proofs.working.work_on.Goals as goal

pub returns-in-Do : goal.returns-in-Do
returns-in-Do g c = let v = g.S.V.Volume in let w = g.W.Wire in let st = g.B.Storage in let op = g.B.Opens in
    subst (λ z. WorksOn v g.S.Space w g.O.Sink g.E.Sink g.K.Clock.answers g.S.OnVolume.under (saying st op) c.args.kind z c.args.name.now c.args.vol c.do_on.result c.args.wire.now c.do_on.new.wire c.args.out.now c.do_on.new.out c.args.clock.now c.do_on.new.clock c.args.err.now c.do_on.new.err) (sym c.in-Do.is) c.do_on.ensures

pub returns-in-Make : goal.returns-in-Make
returns-in-Make g c = let v = g.S.V.Volume in let w = g.W.Wire in let st = g.B.Storage in let op = g.B.Opens in let run = c.make_files.ensures in
    subst (λ z. WorksOn v g.S.Space w g.O.Sink g.E.Sink g.K.Clock.answers g.S.OnVolume.under (saying st op) c.args.kind z c.args.name.now c.args.vol c.make_files.result c.args.wire.now c.args.wire.now c.args.out.now c.args.out.now c.args.clock.now c.args.clock.now c.args.err.now c.args.err.now) (sym c.in-Make.is) (
      [],
      (record { names = run.names; made = run.made; shaped = run.shaped; laid = run.laid; judged = run.judged; there = run.there; full = run.full; caused = run.caused }, (refl, (refl, refl))),
      tells_none g.E.Sink [] c.args.err.now refl,
    )
