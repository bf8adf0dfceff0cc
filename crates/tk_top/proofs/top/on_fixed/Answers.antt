use Rattle.std.proofs.Common.{refl}
use Rattle.tk_top.specs.declared.words.Shape.TheVariants as shapes
use Rattle.tk_top.specs.declared.words.Stored.TheVariants.{Fixed}
use Rattle.tk_top.proofs.Worked.{work_so}
use Rattle.tk_top.proofs.top.on_fixed.Goals as goal

pub returns : goal.returns
returns g c = let run = c.work_on.ensures in (
  run.0,
  work_so g.S.V.Volume g.S.Space g.W.Wire g.O.Sink g.S.OnVolume.under g.met.S.OnVolume.log_is Fixed (λ n. shapes.Fixed n) (λ files file rule. ⊥) (λ n. refl) (λ n. refl) c.args.work c.work_on.result.end c.args.name.now run.0 c.args.vol c.work_on.result.vol c.args.wire.now c.work_on.new.wire c.args.out.now c.work_on.new.out (g.K.Clock.answers c.args.clock.now) (g.K.Clock.answers c.work_on.new.clock) run.1,
  run.2,
)
