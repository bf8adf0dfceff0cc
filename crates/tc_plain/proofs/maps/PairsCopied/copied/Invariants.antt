use Rattle.std.proofs.Common.{◌≡◌, ◌++◌, drop}
use Rattle.tc_plain.proofs.maps.PairsCopied.copied.Given as goal

abbrev pub invariant-loop-pair : goal.invariant-loop-pair
invariant-loop-pair l = l.copy ++ drop l.pair-index l.self ≡ l.self
