use Rattle.td_row.proofs.Parts.{NoneBefore}
use Rattle.td_row.proofs.text.part_of.Given as goal

abbrev pub invariant-loop-i : goal.invariant-loop-i
invariant-loop-i l = NoneBefore l.text l.i
