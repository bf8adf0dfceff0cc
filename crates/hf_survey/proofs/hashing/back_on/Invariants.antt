use Rattle.std.proofs.Common.{◌≡◌, ◌-◌, length, drop}
use Rattle.hf_survey.specs.Hashing.{back_from}
use Rattle.hf_survey.proofs.hashing.back_on.Given as goal

abbrev pub invariant-loop-i : goal.invariant-loop-i
invariant-loop-i l = l.back ≡ back_from l.hash (drop (length l.bytes - l.i) l.bytes)
