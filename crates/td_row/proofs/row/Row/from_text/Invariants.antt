use Rattle.std.proofs.Common.{◌≡◌}
use Rattle.std.specs.Option.{option_copied}
use Rattle.tc_model.specs.Rows.{pairs_of, row_of_text}
use Rattle.td_row.specs.Texts.{left_parts, left_len}
use Rattle.td_row.proofs.Parts.{row_onto}
use Rattle.td_row.proofs.row.Row.from_text.Given as goal

abbrev pub invariant-loop-left : goal.invariant-loop-left
invariant-loop-left l = row_onto l.row (pairs_of (left_parts (option_copied l.left))) ≡ row_of_text l.text

abbrev pub decreases-loop-left : goal.decreases-loop-left
decreases-loop-left l = left_len (option_copied l.left)
