use Rattle.std.proofs.Common.{◌≡◌, ◌++◌, drop}
use Rattle.std.specs.Prelude.{map}
use Rattle.tc_plain.specs.Bodies.{given}
use Rattle.tc_plain.proofs.rows.given_all.Given as goal

abbrev pub invariant-loop-pair : goal.invariant-loop-pair
invariant-loop-pair l = l.found ++ map (given l.one) (drop l.pair-index l.row) ≡ map (given l.one) l.row
