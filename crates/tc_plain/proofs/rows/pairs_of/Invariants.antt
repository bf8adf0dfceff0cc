use Rattle.std.proofs.Common.{◌≡◌, ◌++◌, length}
use Rattle.tc_model.specs.Rows.{pairs_of}
use Rattle.tc_plain.proofs.rows.pairs_of.Given as goal

abbrev pub invariant-loop-rest : goal.invariant-loop-rest
invariant-loop-rest l = l.found ++ pairs_of l.rest ≡ pairs_of l.texts

abbrev pub decreases-loop-rest : goal.decreases-loop-rest
decreases-loop-rest l = length l.rest
