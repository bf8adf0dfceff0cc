use Rattle.std.proofs.Common.{length}
use Rattle.td_row.proofs.Reading.{Progress}
use Rattle.td_row.proofs.row.Row.read.Given as goal

abbrev pub invariant-loop-rest : goal.invariant-loop-rest
invariant-loop-rest l = Progress l.bytes l.row l.rest

abbrev pub decreases-loop-rest : goal.decreases-loop-rest
decreases-loop-rest l = length l.rest
