use Rattle.std.proofs.Common.{◌≡◌, ◌++◌, length}
use Rattle.std.specs.List.{slice_split}
use Rattle.tc_plain.specs.Splits.{cuts}
use Rattle.tc_plain.proofs.texts.split.Given as goal

abbrev pub invariant-loop-at : goal.invariant-loop-at
invariant-loop-at l = l.found ++ slice_split (cuts l.blank) l.rest ≡ slice_split (cuts l.blank) l.text

abbrev pub decreases-loop-at : goal.decreases-loop-at
decreases-loop-at l = length l.rest
