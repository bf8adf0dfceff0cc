use Rattle.ty_look.specs.Seen.{GoesOn}
use Rattle.ty_look.proofs.looking.pass_texts.Given as goal

abbrev pub invariant-loop-to : goal.invariant-loop-to
invariant-loop-to l = GoesOn l.to l.bytes

abbrev pub decreases-loop-to : goal.decreases-loop-to
decreases-loop-to l = l.to.count
