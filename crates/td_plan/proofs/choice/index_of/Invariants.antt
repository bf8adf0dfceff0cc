use Rattle.td_plan.specs.Choices.{NoneBefore, is_served}
use Rattle.td_plan.proofs.choice.index_of.Given as goal

abbrev pub invariant-loop-i : goal.invariant-loop-i
invariant-loop-i l = NoneBefore (is_served l.cond) l.indexes l.i
