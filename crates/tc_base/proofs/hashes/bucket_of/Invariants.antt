use Rattle.std.proofs.Common.{◌≡◌, take}
use Rattle.std.specs.List.{fold}
use Rattle.tc_base.specs.Hashes.{front_step}
use Rattle.tc_base.proofs.hashes.bucket_of.Given as goal

abbrev pub invariant-loop-b : goal.invariant-loop-b
invariant-loop-b l = l.hash ≡ fold front_step 19780211 (take l.b-index l.key)
