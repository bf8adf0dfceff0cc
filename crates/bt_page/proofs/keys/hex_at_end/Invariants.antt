use Rattle.bt_page.proofs.Hex.{Hexing}
use Rattle.bt_page.proofs.keys.hex_at_end.Given as goal

abbrev pub invariant-loop-i : goal.invariant-loop-i
invariant-loop-i l = Hexing l.i l.n l.fn.n l.buffer
