use Rattle.std.proofs.Common.{◌-◌, length}
use Rattle.hf_pool.specs.Pools.{frees}
use Rattle.tc_hash.proofs.Reading.{Listing}
use Rattle.tc_hash.proofs.section.is_list.Given as goal

abbrev pub invariant-loop-place : goal.invariant-loop-place
invariant-loop-place l = Listing l.pool.unit (frees l.pool) l.section l.at l.place

abbrev pub decreases-loop-place : goal.decreases-loop-place
decreases-loop-place l = length l.section - l.at
