use Rattle.td_plan.specs.Choices.{NoneBefore}
use Rattle.tc_table.specs.Adding.{is_of}
use Rattle.tc_table.proofs.adding.place_of.Given as goal

abbrev pub invariant-loop-i : goal.invariant-loop-i
invariant-loop-i g l = NoneBefore (is_of l.name) l.sides l.i
