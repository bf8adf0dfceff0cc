use Rattle.tc_base.proofs.Vnums.{Spelling}
use Rattle.tc_base.proofs.number.spell.Given as goal

abbrev pub invariant-loop-i : goal.invariant-loop-i
invariant-loop-i l = Spelling l.i l.n l.initial.n l.buffer
