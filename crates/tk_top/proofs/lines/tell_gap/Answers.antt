use Rattle.std.proofs.Common.{refl, sym, subst}
use Rattle.tk_top.specs.GapLines.{TellsGap}
use Rattle.tk_top.proofs.lines.tell_gap.Goals as goal

pub returns-in-Gap : goal.returns-in-Gap
returns-in-Gap g c = subst (λ o. TellsGap g.E.Sink o c.args.err.now c.put_gap.new.err) (sym c.in-Gap.is) (c.put_gap.result, c.put_gap.ensures.cause, c.put_gap.ensures.ok)

pub returns-in-Went : goal.returns-in-Went
returns-in-Went g c = subst (λ o. TellsGap g.E.Sink o c.args.err.now c.args.err.now) (sym c.in-Went.is) refl

pub returns-in-Shut : goal.returns-in-Shut
returns-in-Shut g c = subst (λ o. TellsGap g.E.Sink o c.args.err.now c.args.err.now) (sym c.in-Shut.is) refl
