use Rattle.std.proofs.Common.{subst, sym}
use Rattle.tk_top.specs.Top.{CarriesOut}
use Rattle.tk_top.specs.declared.words.Asked.TheVariants as asked
use Rattle.tk_top.specs.declared.words.Shape.{Shape}
use Rattle.tk_top.proofs.top.make_stored.Goals as goal

pub returns-in-Hash : goal.returns-in-Hash
returns-in-Hash g c = subst (λ (shape : Shape). CarriesOut g.S.V.Volume g.W.Wire g.K.Clock.answers g.E.Sink g.O.Sink c.on_hash.result.end (asked.Create c.args.name.now shape) c.args.vol c.on_hash.result.vol c.args.wire.now c.on_hash.new.wire c.args.out.now c.on_hash.new.out c.args.clock.now c.on_hash.new.clock c.args.err.now c.on_hash.new.err) (sym c.in-Hash.is) c.on_hash.ensures

pub returns-in-Tree : goal.returns-in-Tree
returns-in-Tree g c = subst (λ (shape : Shape). CarriesOut g.S.V.Volume g.W.Wire g.K.Clock.answers g.E.Sink g.O.Sink c.on_tree.result.end (asked.Create c.args.name.now shape) c.args.vol c.on_tree.result.vol c.args.wire.now c.on_tree.new.wire c.args.out.now c.on_tree.new.out c.args.clock.now c.on_tree.new.clock c.args.err.now c.on_tree.new.err) (sym c.in-Tree.is) c.on_tree.ensures

pub returns-in-Fixed : goal.returns-in-Fixed
returns-in-Fixed g c = subst (λ (shape : Shape). CarriesOut g.S.V.Volume g.W.Wire g.K.Clock.answers g.E.Sink g.O.Sink c.on_fixed.result.end (asked.Create c.args.name.now shape) c.args.vol c.on_fixed.result.vol c.args.wire.now c.on_fixed.new.wire c.args.out.now c.on_fixed.new.out c.args.clock.now c.on_fixed.new.clock c.args.err.now c.on_fixed.new.err) (sym c.in-Fixed.is) c.on_fixed.ensures

pub returns-in-Table : goal.returns-in-Table
returns-in-Table g c = subst (λ (shape : Shape). CarriesOut g.S.V.Volume g.W.Wire g.K.Clock.answers g.E.Sink g.O.Sink c.on_table.result.end (asked.Create c.args.name.now shape) c.args.vol c.on_table.result.vol c.args.wire.now c.on_table.new.wire c.args.out.now c.on_table.new.out c.args.clock.now c.on_table.new.clock c.args.err.now c.on_table.new.err) (sym c.in-Table.is) c.on_table.ensures
