use Rattle.std.proofs.Common.{◌≡◌, ◌++◌, take}
use Rattle.td_row.specs.Spelling.{row_bytes}
use Rattle.td_row.proofs.bytes.write_columns.Given as goal

abbrev pub invariant-loop-i : goal.invariant-loop-i
invariant-loop-i l = l.into ≡ l.fn.into ++ row_bytes (take l.i l.row)
