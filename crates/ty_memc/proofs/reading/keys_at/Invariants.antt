use Rattle.std.proofs.Common.{◌≡◌, ◌++◌, length}
use Rattle.ty_memc.specs.Words.{words}
use Rattle.ty_memc.proofs.reading.keys_at.Given as goal

abbrev pub invariant-loop-word : goal.invariant-loop-word
invariant-loop-word l = words l.rest ≡ l.keys ++ words l.left

abbrev pub decreases-loop-word : goal.decreases-loop-word
decreases-loop-word l = length l.left
