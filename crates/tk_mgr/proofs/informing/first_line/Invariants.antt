use Rattle.std.proofs.Common.{◌≡◌, ℕ, ◌<◌, get_or, false}
use Rattle.tk_mgr.specs.Showing.{is_break}
use Rattle.tk_mgr.proofs.informing.first_line.Given as goal

abbrev pub invariant-loop-i : goal.invariant-loop-i
invariant-loop-i l = (k : ℕ) → k < l.i → is_break (get_or l.bytes k 0) ≡ false
