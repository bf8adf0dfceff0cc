use Rattle.std.proofs.Common.{◌≡◌, ◌++◌, take}
use Rattle.tc_model.specs.Rows.{row_text}
use Rattle.td_row.proofs.text.write_text.Given as goal

abbrev pub invariant-loop-i : goal.invariant-loop-i
invariant-loop-i l = l.into ≡ l.fn.into ++ row_text (take l.i l.row)
