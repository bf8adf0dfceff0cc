use Rattle.std.proofs.Common.{ℕ, List, [], refl, sym, subst}
use Rattle.tk_top.specs.Top.{CarriesOut, SourceRun}
use Rattle.tk_top.specs.declared.words.Asked.TheVariants as asked
use Rattle.tk_top.specs.declared.words.Source.{Source}
use Rattle.tk_top.specs.declared.words.Source.TheVariants as source
use Rattle.tk_top.proofs.LoggedRuns.{tells_still}
use Rattle.tk_top.proofs.top.serve_source.Goals as goal

pub returns-in-Memory : goal.returns-in-Memory
returns-in-Memory g c = (
  [],
  (
    subst (λ (from : Source). SourceRun g.S.V.Volume g.W.Wire c.serve_memory.result from c.args.at c.args.turns [] c.args.vol c.args.vol c.args.wire.now c.serve_memory.new.wire (g.K.Clock.answers c.args.clock.now) (g.K.Clock.answers c.serve_memory.new.clock)) (sym c.in-Memory.is) (c.serve_memory.ensures.served, (refl, refl)),
    refl,
  ),
  tells_still g.E.Sink c.args.err.now c.serve_memory.new.err c.serve_memory.ensures.silent,
)

pub returns-in-File : goal.returns-in-File
returns-in-File g c = subst (λ (from : Source). CarriesOut g.S.V.Volume g.W.Wire g.K.Clock.answers g.E.Sink g.O.Sink c.do_stored.result.end (asked.Serve from c.args.at c.args.turns) c.args.vol c.do_stored.result.vol c.args.wire.now c.do_stored.new.wire c.args.out.now c.do_stored.new.out c.args.clock.now c.do_stored.new.clock c.args.err.now c.do_stored.new.err) (sym c.in-File.is)
    (subst (λ (name : List ℕ). CarriesOut g.S.V.Volume g.W.Wire g.K.Clock.answers g.E.Sink g.O.Sink c.do_stored.result.end (asked.Serve (source.File name c.in-File.stored c.in-File.limit) c.args.at c.args.turns) c.args.vol c.do_stored.result.vol c.args.wire.now c.do_stored.new.wire c.args.out.now c.do_stored.new.out c.args.clock.now c.do_stored.new.clock c.args.err.now c.do_stored.new.err) c.as_str.ensures c.do_stored.ensures)

pub returns-in-Logged : goal.returns-in-Logged
returns-in-Logged g c = subst (λ (from : Source). CarriesOut g.S.V.Volume g.W.Wire g.K.Clock.answers g.E.Sink g.O.Sink c.do_stored-in-Logged.result.end (asked.Serve from c.args.at c.args.turns) c.args.vol c.do_stored-in-Logged.result.vol c.args.wire.now c.do_stored-in-Logged.new.wire c.args.out.now c.do_stored-in-Logged.new.out c.args.clock.now c.do_stored-in-Logged.new.clock c.args.err.now c.do_stored-in-Logged.new.err) (sym c.in-Logged.is)
    (subst (λ (name : List ℕ). CarriesOut g.S.V.Volume g.W.Wire g.K.Clock.answers g.E.Sink g.O.Sink c.do_stored-in-Logged.result.end (asked.Serve (source.Logged name c.in-Logged.stored c.in-Logged.limit c.in-Logged.own c.in-Logged.master) c.args.at c.args.turns) c.args.vol c.do_stored-in-Logged.result.vol c.args.wire.now c.do_stored-in-Logged.new.wire c.args.out.now c.do_stored-in-Logged.new.out c.args.clock.now c.do_stored-in-Logged.new.clock c.args.err.now c.do_stored-in-Logged.new.err) c.as_str-in-Logged.ensures c.do_stored-in-Logged.ensures)
