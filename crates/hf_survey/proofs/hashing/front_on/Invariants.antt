use Rattle.std.proofs.Common.{◌≡◌, take}
use Rattle.std.specs.List.{fold}
use Rattle.tc_base.specs.Hashes.{front_step}
use Rattle.hf_survey.proofs.hashing.front_on.Given as goal

abbrev pub invariant-loop-i : goal.invariant-loop-i
invariant-loop-i l = l.front ≡ fold front_step l.hash (take l.i l.bytes)
