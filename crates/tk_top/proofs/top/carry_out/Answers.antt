use Rattle.std.proofs.Common.{ℕ, List, [], refl, sym, subst}
use Rattle.tk_top.specs.Top.{AskedRun, CarriesOut}
use Rattle.tk_top.specs.declared.words.Asked.{Asked}
use Rattle.tk_top.specs.declared.words.Asked.TheVariants as asked
use Rattle.tk_top.proofs.LoggedRuns.{tells_none}
use Rattle.tk_top.proofs.top.carry_out.Goals as goal

pub returns-in-Serve : goal.returns-in-Serve
returns-in-Serve g c = subst (λ (a : Asked). CarriesOut g.S.V.Volume g.W.Wire g.K.Clock.answers g.E.Sink g.O.Sink c.serve_source.result.end a c.args.vol c.serve_source.result.vol c.args.wire.now c.serve_source.new.wire c.args.out.now c.serve_source.new.out c.args.clock.now c.serve_source.new.clock c.args.err.now c.serve_source.new.err) (sym c.in-Serve.is) c.serve_source.ensures

pub returns-in-Task : goal.returns-in-Task
returns-in-Task g c = subst (λ (a : Asked). CarriesOut g.S.V.Volume g.W.Wire g.K.Clock.answers g.E.Sink g.O.Sink c.do_stored.result.end a c.args.vol c.do_stored.result.vol c.args.wire.now c.do_stored.new.wire c.args.out.now c.do_stored.new.out c.args.clock.now c.do_stored.new.clock c.args.err.now c.do_stored.new.err) (sym c.in-Task.is)
    (subst (λ (name : List ℕ). CarriesOut g.S.V.Volume g.W.Wire g.K.Clock.answers g.E.Sink g.O.Sink c.do_stored.result.end (asked.Task name c.in-Task.stored c.in-Task.task) c.args.vol c.do_stored.result.vol c.args.wire.now c.do_stored.new.wire c.args.out.now c.do_stored.new.out c.args.clock.now c.do_stored.new.clock c.args.err.now c.do_stored.new.err) c.as_str.ensures c.do_stored.ensures)

pub returns-in-Create : goal.returns-in-Create
returns-in-Create g c = subst (λ (a : Asked). CarriesOut g.S.V.Volume g.W.Wire g.K.Clock.answers g.E.Sink g.O.Sink c.make_stored.result.end a c.args.vol c.make_stored.result.vol c.args.wire.now c.make_stored.new.wire c.args.out.now c.make_stored.new.out c.args.clock.now c.make_stored.new.clock c.args.err.now c.make_stored.new.err) (sym c.in-Create.is)
    (subst (λ (name : List ℕ). CarriesOut g.S.V.Volume g.W.Wire g.K.Clock.answers g.E.Sink g.O.Sink c.make_stored.result.end (asked.Create name c.in-Create.shape) c.args.vol c.make_stored.result.vol c.args.wire.now c.make_stored.new.wire c.args.out.now c.make_stored.new.out c.args.clock.now c.make_stored.new.clock c.args.err.now c.make_stored.new.err) c.as_str-in-Create.ensures c.make_stored.ensures)

pub returns-in-Drill : goal.returns-in-Drill
returns-in-Drill g c = let clock = g.K.Clock.answers c.args.clock.now in (
  [],
  subst (λ (a : Asked). AskedRun g.S.V.Volume g.W.Wire g.O.Sink c.drill_memory.result a [] c.args.vol c.args.vol c.args.wire.now c.args.wire.now c.args.out.now c.drill_memory.new.out clock clock) (sym c.in-Drill.is) (c.drill_memory.ensures, (refl, (refl, refl))),
  tells_none g.E.Sink [] c.args.err.now refl,
)
