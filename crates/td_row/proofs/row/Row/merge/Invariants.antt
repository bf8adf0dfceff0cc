use Rattle.std.proofs.Common.{◌≡◌, take}
use Rattle.tc_model.specs.Rows.{with_lacking}
use Rattle.td_row.proofs.row.Row.merge.Given as goal

abbrev pub invariant-loop-i : goal.invariant-loop-i
invariant-loop-i l = l.row ≡ with_lacking l.fn.self (take l.i l.more)
