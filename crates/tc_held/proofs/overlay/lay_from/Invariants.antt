use Rattle.std.proofs.Common.{◌≡◌, ◌≤◌, drop, length, List, ℕ}
use Rattle.tc_undo.specs.Pieces.{reached}
use Rattle.tc_held.specs.Shown.{LaysSome, Shows}
use Rattle.tc_held.proofs.overlay.lay_from.Given as goal

abbrev pub invariant-loop-i : goal.invariant-loop-i
invariant-loop-i l = record {
  long : length l.into ≡ length l.initial.into;
  from : l.first ≤ l.i;
  within : l.i ≤ length l.pieces;
  some : (old : List ℕ) → reached l.bytes l.pieces l.file old → Shows l.initial.into l.at old → LaysSome l.bytes l.pieces l.file l.at old l.into (drop l.i l.pieces);
}
