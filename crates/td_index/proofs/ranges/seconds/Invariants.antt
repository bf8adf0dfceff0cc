use Rattle.std.proofs.Common.{◌≡◌, map}
use Rattle.td_index.specs.Ranges.{second}
use Rattle.td_index.proofs.ranges.seconds.Given as goal

abbrev pub invariant-loop-pair : goal.invariant-loop-pair
invariant-loop-pair l = l.keys ≡ map (λ p. second p.key) l.yielded
