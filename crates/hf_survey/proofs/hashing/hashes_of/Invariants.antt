use Rattle.std.proofs.Common.{◌≡◌, ◌-◌, length, take, drop}
use Rattle.std.specs.List.{fold}
use Rattle.tc_base.specs.Hashes.{front_step, back_hash}
use Rattle.hf_survey.proofs.hashing.hashes_of.Given as goal

abbrev pub invariant-loop-i : goal.invariant-loop-i
invariant-loop-i l = record {
  front : l.front ≡ fold front_step 19780211 (take l.i l.key);
  back : l.back ≡ back_hash (drop (length l.key - l.i) l.key);
}
