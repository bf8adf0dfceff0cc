use Rattle.std.proofs.Common.{◌≡◌, ◌++◌, length}
use Rattle.tk_mgr.specs.Tasks.{condition_args}
use Rattle.tk_mgr.proofs.searching.add_conditions.Given as goal

abbrev pub invariant-loop-rest : goal.invariant-loop-rest
invariant-loop-rest l = l.args ++ condition_args l.rest ≡ l.fn.args ++ condition_args l.conditions

abbrev pub decreases-loop-rest : goal.decreases-loop-rest
decreases-loop-rest l = length l.rest
