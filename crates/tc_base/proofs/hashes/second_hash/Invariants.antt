use Rattle.std.proofs.Common.{◌≡◌, ◌-◌, length, drop}
use Rattle.tc_base.specs.Hashes.{back_hash}
use Rattle.tc_base.proofs.hashes.second_hash.Given as goal

abbrev pub invariant-loop-i : goal.invariant-loop-i
invariant-loop-i l = l.hash ≡ back_hash (drop (length l.key - l.i) l.key)
