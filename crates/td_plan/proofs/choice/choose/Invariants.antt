use Rattle.td_plan.specs.Choices.{NoneServed}
use Rattle.td_plan.proofs.choice.choose.Given as goal

abbrev pub invariant-loop-i : goal.invariant-loop-i
invariant-loop-i l = NoneServed l.q l.indexes l.i
