use Rattle.std.proofs.Common.{◌≡◌, ◌++◌, drop}
use Rattle.tc_plain.specs.Bodies.{lacking}
use Rattle.tc_plain.proofs.rows.lacking.Given as goal

abbrev pub invariant-loop-pair : goal.invariant-loop-pair
invariant-loop-pair l = l.found ++ lacking l.row (drop l.pair-index l.more) ≡ l.initial.found ++ lacking l.row l.more
