use Rattle.std.proofs.Common.{ℕ, [], refl, sym, subst}
use Rattle.ty_base.specs.Opening.{OpensTo}
use Rattle.tk_top.specs.Logging.{FillsLogged, logging}
use Rattle.tk_top.specs.Over.{FullOn}
use Rattle.tk_top.specs.Says.{saying}
use Rattle.tk_top.specs.Works.{DoesOn, LogsFiles, ServesFiles}
use Rattle.tk_top.specs.declared.working.Job.{Job}
use Rattle.tk_top.proofs.LoggedRuns.{tells_none, tells_still}
use Rattle.tk_top.proofs.working.do_on.Goals as goal

pub returns-in-Serve : goal.returns-in-Serve
returns-in-Serve g c = let v = g.S.V.Volume in let w = g.W.Wire in let st = g.B.Storage in let op = g.B.Opens in let run = c.run_files.ensures in
    subst (λ (j : Job). DoesOn v g.S.Space w g.O.Sink g.E.Sink g.K.Clock.answers g.S.OnVolume.under (saying st op) c.args.kind j c.args.name.now c.args.vol c.run_files.result c.args.wire.now c.run_files.new.wire c.args.out.now c.args.out.now c.args.clock.now c.run_files.new.clock c.args.err.now c.run_files.new.err) (sym c.in-Serve.is) (
      [],
      (
        (
          subst (λ (most : ℕ). ServesFiles v w c.args.kind st.reopens st.own st.layout (op.shaped op.usual) (op.breaks c.args.kind) (FullOn v g.S.Space w g.S.OnVolume.under (λ z. op.lacks z op.usual) st.fills_since (OpensTo c.args.kind st.reopens) most c.args.vol c.run_files.result.vol c.args.wire.now c.run_files.new.wire) c.run_files.result.end c.args.name.now most c.in-Serve.at c.in-Serve.turns c.args.vol c.run_files.result.vol c.args.wire.now c.run_files.new.wire)
              c.limited.ensures.is (record { names = run.names; told = run.told; laid = run.laid; judged = run.judged; guards = run.guards; full = run.full; caused = run.caused }),
          refl,
        ),
        refl,
      ),
      tells_still g.E.Sink c.args.err.now c.run_files.new.err run.silent,
    )

pub returns-in-Log : goal.returns-in-Log
returns-in-Log g c = let v = g.S.V.Volume in let w = g.W.Wire in let st = g.B.Storage in let op = g.B.Opens in let run = c.run_logged.ensures in
    let is = logging c.in-Log.own c.in-Log.master in let before = g.K.Clock.answers c.args.clock.now in let after = g.K.Clock.answers c.run_logged.new.clock in
    subst (λ (j : Job). DoesOn v g.S.Space w g.O.Sink g.E.Sink g.K.Clock.answers g.S.OnVolume.under (saying st op) c.args.kind j c.args.name.now c.args.vol c.run_logged.result c.args.wire.now c.run_logged.new.wire c.args.out.now c.args.out.now c.args.clock.now c.run_logged.new.clock c.args.err.now c.run_logged.new.err) (sym c.in-Log.is) (
      run.told.0.gaps,
      (
        subst (λ (most : ℕ). LogsFiles v w c.args.kind st.reopens st.own st.layout (op.shaped op.usual) (op.breaks c.args.kind) (λ ticks. FillsLogged v g.S.Space w g.S.OnVolume.under c.args.kind st.reopens (λ z. op.lacks z op.usual) st.fills_since is most c.args.vol c.run_logged.result.vol c.args.wire.now c.run_logged.new.wire ticks) c.run_logged.result.end c.args.name.now most is c.in-Log.at c.in-Log.turns run.told.0.gaps c.args.vol c.run_logged.result.vol c.args.wire.now c.run_logged.new.wire before after)
            c.limited-in-Log.ensures.is (record {
              names = run.names;
              told = run.told.0;
              gaps_are = refl;
              met = run.told.2;
              laid = run.laid;
              judged = run.judged;
              stood = run.stood;
              guards = run.guards;
              unlogged = run.unlogged;
              full = run.told.3;
              caused = run.caused;
            }),
        refl,
      ),
      run.told.1,
    )

pub returns-in-Task : goal.returns-in-Task
returns-in-Task g c = let v = g.S.V.Volume in let w = g.W.Wire in let st = g.B.Storage in let op = g.B.Opens in let run = c.manage_files.ensures in
    subst (λ (j : Job). DoesOn v g.S.Space w g.O.Sink g.E.Sink g.K.Clock.answers g.S.OnVolume.under (saying st op) c.args.kind j c.args.name.now c.args.vol c.manage_files.result c.args.wire.now c.args.wire.now c.args.out.now c.manage_files.new.out c.args.clock.now c.args.clock.now c.args.err.now c.args.err.now) (sym c.in-Task.is) (
      [],
      (record { names = run.names; told = run.told; laid = run.laid; formed = run.formed; judged = run.judged; guards = run.guards; full = run.full; caused = run.caused }, (refl, refl)),
      tells_none g.E.Sink [] c.args.err.now refl,
    )
