use Rattle.std.proofs.Common.{◌≡◌, ◌<◌, ℕ, get_or, false}
use Rattle.tc_plain.specs.Splits.{cuts}
use Rattle.tc_plain.proofs.texts.cut_of.Given as goal

abbrev pub invariant-loop-i : goal.invariant-loop-i
invariant-loop-i l = (k : ℕ) → k < l.i → cuts l.blank (get_or l.text k 0) ≡ false
