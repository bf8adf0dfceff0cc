use Rattle.std.proofs.Common.{take, All}
use Rattle.tc_undo.specs.Guards.{IsNew}
use Rattle.tc_undo.proofs.pieces.are_new.Given as goal

abbrev pub invariant-loop-i : goal.invariant-loop-i
invariant-loop-i l = All (IsNew l.recorded l.lens) (take l.i l.pieces)
