use Rattle.std.proofs.Common.{◌≡◌, drop}
use Rattle.tc_model.specs.Apply.{next_of}
use Rattle.tc_plain.specs.Views.{contents_of}
use Rattle.tc_plain.proofs.apply.first_held.Given as goal

abbrev pub invariant-loop-i : goal.invariant-loop-i
invariant-loop-i l = next_of (contents_of l.stored) l.keys ≡ next_of (contents_of l.stored) (drop l.i l.keys)
